-- P1, P2 and P1' of MP5 and MP6, as the working finds them; and what a working of the right lengths comes to. Assumes nothing.
use mathlib.Core.Path.{◌≡◌, refl, sym, ap, subst, ◌∙◌}
use mathlib.Core.Bool.{true}
use mathlib.Core.List.{List}
use Prim.Native.Nat.{ℕ, ◌+◌, ◌*◌, ◌/◌, ◌%◌, ◌<◌}
use native.Mathlib.Decide.{dec_lt, ℕ_discrete}
use native.Mathlib.Omega.{arith}
use lib.ListN.{length}
use Rattle.std.specs.Prelude.{Ok}
use Rattle.bits.specs.Bits.{bit_at}
use Rattle.coding.specs.declared.Rate.{Rate}
use Rattle.coding.specs.declared.Rate.TheVariants.{TwoFifths, Half}
use Rattle.coding.specs.Rates.{coded_length}
use Rattle.coding.specs.Channel.{channel}
use Rattle.interleaving.specs.declared.Position.{Position}
use Rattle.interleaving.specs.PM.{p1_place}
use Rattle.interleaving.specs.PX2.{place}
use Rattle.runs.specs.declared.Main.{Main}
use Rattle.runs.specs.declared.Main.TheVariants.{Plain, Mp5, Mp6}
use Rattle.runs.specs.declared.State.{State}
use Rattle.runs.specs.MainChannels.{main_of, p1_bits, p1_frames, p2_bits, p1'_bits, p1'_row, p1_len, p2_len}
use Rattle.runs.specs.Chain.{p1_coded}
use Rattle.runs.specs.Starting.{valid}
use Rattle.locating.specs.Locator.{at_cell, located}
use Rattle.locating.specs.declared.writing.Writing.{Writing}
use Rattle.locating.specs.Writing.{p1_writing}
use Rattle.finding.specs.VectorU.{frame_coded, p2_coded}
use Rattle.finding.specs.Locator.{p1_in, p2_in}
use Rattle.finding.proofs.Cases.{p1-frame-out, p1-bit-out, p1-in, p2-out, p2-frame-out, p2-bit-out, p2-in}
use Rattle.finding_px.specs.Second.{coded_of}
use Rattle.finding_px.specs.Writing.{p1'_writing}
use Rattle.finding_px.proofs.Turned.{bits_are}
use Rattle.workings.specs.Sheets.{ComesTo}
use Rattle.workings.proofs.Explained.{shown-explains}
use Rattle.workings.proofs.Sheets.{shown-success, shown-written}
use Rattle.workings_in.specs.Shown.{rate_in, frames_in, of_three, bits_in, writing_in, worked_in}
use Rattle.workings_in.proofs.Sizes.{whole_in}
use Rattle.workings_in.proofs.Cases.{own, inside}

-- ---- the sizes: count transfer frames of n bits, in len bytes

pub record Own (k : Main) (number n count : ℕ) (rate : Rate) (len : ℕ) : Type 0 where
  pub bits_is : n ≡ bits_in k number
  pub some : 0 < n
  pub count-is : count ≡ frames_in number
  pub rate-is : rate ≡ rate_in number
  pub length-is : len ≡ count * n / 8

pub own-p1 : (k : Main) → (k ≡ Plain → ⊥) → Own k 1 (p1_bits k) 8 TwoFifths (p1_len k)
unfolding of_three frames_in rate_in
own-p1 Plain two = absurd (two refl)
own-p1 Mp5 two = record { bits_is = refl; some = omega arith; count-is = refl; rate-is = refl; length-is = refl }
own-p1 Mp6 two = record { bits_is = refl; some = omega arith; count-is = refl; rate-is = refl; length-is = refl }

pub own-p2 : (k : Main) → (k ≡ Plain → ⊥) → Own k 5 (p2_bits k) 1 TwoFifths (p2_len k)
unfolding of_three frames_in rate_in
own-p2 Plain two = absurd (two refl)
own-p2 Mp5 two = record { bits_is = refl; some = omega arith; count-is = refl; rate-is = refl; length-is = refl }
own-p2 Mp6 two = record { bits_is = refl; some = omega arith; count-is = refl; rate-is = refl; length-is = refl }

pub own-second : (k : Main) → (k ≡ Plain → ⊥) → Own k 6 (p1'_bits k) 8 Half (p1_len k)
unfolding of_three frames_in rate_in
own-second Plain two = absurd (two refl)
own-second Mp5 two = record { bits_is = refl; some = omega arith; count-is = refl; rate-is = refl; length-is = refl }
own-second Mp6 two = record { bits_is = refl; some = omega arith; count-is = refl; rate-is = refl; length-is = refl }

pub eight-frames : (k : Main) → (k ≡ Plain → ⊥) → p1_frames k ≡ 8
eight-frames Plain two = absurd (two refl)
eight-frames Mp5 two = refl
eight-frames Mp6 two = refl

pub second-coded : (k : Main) → coded_of k ≡ coded_length Half (p1'_bits k)
second-coded Plain = refl
second-coded Mp5 = refl
second-coded Mp6 = refl

-- ---- the cells

module _ (k : Main) (frame bit : ℕ) where
  pub p1-written : (writing_in k 1 frame bit).cell ≡ p1_place (frame * frame_coded k + bit)
  unfolding writing_in p1_writing
  p1-written = refl

  pub p2-written : (writing_in k 5 frame bit).cell ≡ p1_place (p1_coded k + bit)
  unfolding writing_in p1_writing
  p2-written = refl

  pub second-written : (writing_in k 6 frame bit).cell ≡ place (p1'_row k) (frame * coded_of k + bit)
  unfolding writing_in p1'_writing
  second-written = ap (λ (n : ℕ). place (p1'_row k) (frame * n + bit)) (bits_are k)

-- ---- what the locator of PM says of a bit that it does not refuse

module _ (k : Main) (frame bit row column : ℕ) (p : Position) where
  pub p1-says : p1_in k frame bit ≡ Ok (at_cell p row column) → (frame < p1_frames k) × (bit < frame_coded k) × (located 1 0 (frame * frame_coded k + bit) ≡ Ok (at_cell p row column))
  p1-says e = go (dec_lt frame (p1_frames k)) (dec_lt bit (frame_coded k))
    where
      go : Dec (frame < p1_frames k) → Dec (bit < frame_coded k)
          → (frame < p1_frames k) × (bit < frame_coded k) × (located 1 0 (frame * frame_coded k + bit) ≡ Ok (at_cell p row column))
      go (yes lf) (yes lb) = (lf, lb, p1-in k frame bit lf lb ∙ e)
      go (no lf) lb = let r = p1-frame-out k frame bit (omega arith) in let z : ◌≡◌ {A = ℕ} 0 1 = cc in absurd (omega arith)
      go (yes lf) (no lb) = let r = p1-bit-out k frame bit lf (omega arith) in let z : ◌≡◌ {A = ℕ} 0 1 = cc in absurd (omega arith)

  pub p2-says : p2_in k frame bit ≡ Ok (at_cell p row column)
      → (p2_coded k ≡ 0 → ⊥) × (frame < 1) × (bit < p2_coded k) × (located 1 0 (p1_coded k + bit) ≡ Ok (at_cell p row column))
  p2-says e = go (ℕ_discrete (p2_coded k) 0) (dec_lt frame 1) (dec_lt bit (p2_coded k))
    where
      go : Dec (p2_coded k ≡ 0) → Dec (frame < 1) → Dec (bit < p2_coded k)
          → (p2_coded k ≡ 0 → ⊥) × (frame < 1) × (bit < p2_coded k) × (located 1 0 (p1_coded k + bit) ≡ Ok (at_cell p row column))
      go (no n) (yes lf) (yes lb) = (n, lf, lb, p2-in k frame bit n lf lb ∙ e)
      go (yes q) lf lb = let r = p2-out k frame bit q in let z : ◌≡◌ {A = ℕ} 0 1 = cc in absurd (omega arith)
      go (no n) (no lf) lb = let r = p2-frame-out k frame bit n (omega arith) in let z : ◌≡◌ {A = ℕ} 0 1 = cc in absurd (omega arith)
      go (no n) (yes lf) (no lb) = let r = p2-bit-out k frame bit n lf (omega arith) in let z : ◌≡◌ {A = ℕ} 0 1 = cc in absurd (omega arith)

-- ---- a working of frames of the right length

module _ (s : State) (number : ℕ) (frames : List ℕ) (frame bit n count : ℕ) (rate : Rate) (len : ℕ) (o : Own (main_of s.mode) number n count rate len)
    (v : valid s ≡ true) (length-is : length frames ≡ len) (lf : frame < count) (lb : bit < coded_length rate n) where
  abbrev k : Main
  k = main_of s.mode

  pub comes-own : (b cell : ℕ) → b ≡ channel rate n (bit_at frames) (frame * coded_length rate n + bit)
      → (writing_in (main_of s.mode) number frame bit).cell ≡ cell → ComesTo b cell (worked_in s number frames frame bit)
  comes-own b cell b-is cell-is =
      let w = writing_in k number frame bit in
      let even : n % 2 ≡ 0 = omega (arith, (whole_in k number n o.bits_is o.some).bytes) in
      let ne : n ≡ 0 → ⊥ = λ z. omega (arith, z, o.some) in
      subst (ComesTo b cell)
      (inside k number frame bit frames n o.bits_is count o.count-is (length-is ∙ o.length-is) lf rate o.rate-is lb w refl
      ∙ own s number frame bit frames v k refl n o.bits_is ne)
      (record {
        success = shown-success rate n _ bit w;
        comes-to = (shown-explains rate n (bit_at frames) frame bit even lb w).is-coded ∙ sym b-is;
        written-to = ap (λ (x : Writing). x.cell) (shown-written rate n _ bit w) ∙ cell-is;
      })
