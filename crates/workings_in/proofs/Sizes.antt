-- The sizes of P1, P2 and P1' in MP5 and MP6, as the code finds them. Assumes nothing.
use mathlib.Core.Path.{◌≡◌, refl, sym, ap, ◌∙◌}
use mathlib.Core.Bool.{Bool, true, false, cond}
use Prim.Native.Nat.{ℕ, ◌+◌, ◌*◌, ◌%◌, ◌≤◌, ◌<◌}
use native.Mathlib.Decide.{ℕ_discrete}
use native.Mathlib.Omega.{arith}
use lib.Dec.{eqb}
use borrow.Author.Tests.{eq-eqb, ne_eqb}
use Rattle.coding.specs.declared.Rate.{Rate}
use Rattle.coding.specs.declared.Rate.TheVariants.{TwoFifths, Half}
use Rattle.coding.specs.Rates.{coded_length}
use Rattle.interleaving.specs.PX2.{frame_bits}
use Rattle.runs.specs.declared.Main.{Main}
use Rattle.runs.specs.declared.Main.TheVariants.{Plain, Mp5, Mp6}
use Rattle.runs.specs.MainChannels.{p1'_row}
use Rattle.runs.specs.Chain.{p1_coded}
use Rattle.locating.specs.Writing.{p1_writing}
use Rattle.finding.specs.VectorU.{frame_coded}
use Rattle.finding_px.specs.Writing.{p1'_writing}
use Rattle.workings_in.specs.Shown.{rate_in, frames_in, of_three, bits_in, writing_in}

-- ---- the channel's of three numbers

module _ (channel p1 p2 p1' : ℕ) where
  pub of-first : channel ≡ 1 → p1 ≡ of_three channel p1 p2 p1'
  unfolding of_three
  of-first e = rw (eq-eqb channel 1 e)

  pub of-fifth : (channel ≡ 1 → ⊥) → channel ≡ 5 → p2 ≡ of_three channel p1 p2 p1'
  unfolding of_three
  of-fifth n e = rw (ne_eqb channel 1 n, eq-eqb channel 5 e)

  pub of-sixth : (channel ≡ 1 → ⊥) → (channel ≡ 5 → ⊥) → channel ≡ 6 → p1' ≡ of_three channel p1 p2 p1'
  unfolding of_three
  of-sixth n m e = rw (ne_eqb channel 1 n, ne_eqb channel 5 m, eq-eqb channel 6 e)

  pub of_none : (channel ≡ 1 → ⊥) → (channel ≡ 5 → ⊥) → (channel ≡ 6 → ⊥) → 0 ≡ of_three channel p1 p2 p1'
  unfolding of_three
  of_none n m o = rw (ne_eqb channel 1 n, ne_eqb channel 5 m, ne_eqb channel 6 o)

-- frames of whole bytes, of seven bits or more
pub record Whole (n : ℕ) : Type 0 where
  pub enough : 7 ≤ n
  pub bytes : n % 8 ≡ 0
  pub few : n ≤ 146176

of-whole : (p1 p2 p1' : ℕ) → Whole p1 → Whole p2 → Whole p1' → (a b c : Bool) → 0 < cond a p1 (cond b p2 (cond c p1' 0))
    → Whole (cond a p1 (cond b p2 (cond c p1' 0)))
of-whole p1 p2 p1' u v w true b c l = u
of-whole p1 p2 p1' u v w false true c l = v
of-whole p1 p2 p1' u v w false false true l = w
of-whole p1 p2 p1' u v w false false false l = absurd (omega arith)

whole_of : (n : ℕ) → 7 ≤ n → n % 8 ≡ 0 → n ≤ 146176 → Whole n
whole_of n l e h = record { enough = l; bytes = e; few = h }

pub whole : (k : Main) (channel : ℕ) → 0 < bits_in k channel → Whole (bits_in k channel)
unfolding of_three
whole Plain channel l = absurd (omega arith)
whole Mp5 channel l =
    let p1 = whole_of 4608 (omega arith) refl (omega arith) in
    of-whole 4608 109312 4608 p1 (whole_of 109312 (omega arith) refl (omega arith)) p1 (eqb channel 1) (eqb channel 5) (eqb channel 6) l
whole Mp6 channel l =
    let p1 = whole_of 9216 (omega arith) refl (omega arith) in
    of-whole 9216 72448 9216 p1 (whole_of 72448 (omega arith) refl (omega arith)) p1 (eqb channel 1) (eqb channel 5) (eqb channel 6) l

pub whole_in : (k : Main) (channel n : ℕ) → n ≡ bits_in k channel → 0 < n → Whole n
whole_in k channel n e l = rw e (whole k channel (rw e at l))

-- ---- the bits, by the kind of mode

module _ (main : Main) (channel n : ℕ) where
  pub in-plain : main ≡ Plain → 0 ≡ bits_in main channel
  in-plain e = ap (λ (k : Main). bits_in k channel) (sym e)

  pub in-mp5 : main ≡ Mp5 → n ≡ of_three channel 4608 109312 4608 → n ≡ bits_in main channel
  in-mp5 e f = f ∙ ap (λ (k : Main). bits_in k channel) (sym e)

  pub in-mp6 : main ≡ Mp6 → n ≡ of_three channel 9216 72448 9216 → n ≡ bits_in main channel
  in-mp6 e f = f ∙ ap (λ (k : Main). bits_in k channel) (sym e)

three-le : (p1 p2 p1' m : ℕ) → p1 ≤ m → p2 ≤ m → p1' ≤ m → (a b c : Bool) → cond a p1 (cond b p2 (cond c p1' 0)) ≤ m
three-le p1 p2 p1' m u v w true b c = u
three-le p1 p2 p1' m u v w false true c = v
three-le p1 p2 p1' m u v w false false true = w
three-le p1 p2 p1' m u v w false false false = omega arith

pub few_bits : (channel p1 p2 p1' n m : ℕ) → n ≡ of_three channel p1 p2 p1' → p1 ≤ m → p2 ≤ m → p1' ≤ m → n ≤ m
unfolding of_three
few_bits channel p1 p2 p1' n m e u v w = rw e (three-le p1 p2 p1' m u v w (eqb channel 1) (eqb channel 5) (eqb channel 6))

none_in : (k : Main) (channel : ℕ) → (channel ≡ 1 → ⊥) → (channel ≡ 5 → ⊥) → (channel ≡ 6 → ⊥) → bits_in k channel ≡ 0
none_in Plain channel n m o = refl
none_in Mp5 channel n m o = sym (of_none channel 4608 109312 4608 n m o)
none_in Mp6 channel n m o = sym (of_none channel 9216 72448 9216 n m o)

none-coded : (rate : Rate) → coded_length rate 0 ≡ 0
none-coded TwoFifths = refl
none-coded Half = refl

-- ---- what the interleaver is asked to write

p1-coded : (k : Main) (frame bit : ℕ) → frame < 8 → bit < coded_length (rate_in 1) (bits_in k 1)
    → (coded_length (rate_in 1) (bits_in k 1) ≡ frame_coded k) × (frame * coded_length (rate_in 1) (bits_in k 1) + bit < 365440)
unfolding rate_in of_three
p1-coded Plain frame bit lf lb = absurd (omega arith)
p1-coded Mp5 frame bit lf lb = (refl, omega arith)
p1-coded Mp6 frame bit lf lb = (refl, omega arith)

p2-coded : (k : Main) (bit : ℕ) → bit < coded_length (rate_in 5) (bits_in k 5) → p1_coded k + bit < 365440
unfolding rate_in of_three
p2-coded Plain bit lb = absurd (omega arith)
p2-coded Mp5 bit lb = omega arith
p2-coded Mp6 bit lb = omega arith

second-coded : (k : Main) (bit : ℕ) → bit < coded_length (rate_in 6) (bits_in k 6) → (p1'_row k < 2) × (bit < frame_bits (p1'_row k))
unfolding rate_in of_three frame_bits
second-coded Plain bit lb = absurd (omega arith)
second-coded Mp5 bit lb = (omega arith, lb)
second-coded Mp6 bit lb = (omega arith, lb)

frames-le : (channel : ℕ) → frames_in channel ≤ 8
unfolding frames_in
frames-le channel = go (eqb channel 5)
  where
    go : (b : Bool) → cond b 1 8 ≤ 8
    go true = omega arith
    go false = omega arith

-- n is the coded bits of a transfer frame
module _ (k : Main) (channel n frame bit : ℕ) (lf : frame < frames_in channel) (n-is : n ≡ coded_length (rate_in channel) (bits_in k channel)) (lb : bit < n) where
  inside : (c : ℕ) → channel ≡ c → bit < coded_length (rate_in c) (bits_in k c)
  inside c e = rw (n-is, e) at lb

  pub in-eight : frame < 8
  in-eight = omega (arith, lf, frames-le channel)

  pub in-p2 : (all : ℕ) → all ≡ p1_coded k → channel ≡ 5 → (all + bit < 365440) × (p1_writing (all + bit) ≡ writing_in k channel frame bit)
  unfolding writing_in
  in-p2 all all-is e = (omega (arith, all-is, p2-coded k bit (inside 5 e)), rw (eq-eqb channel 5 e, all-is))

  pub in-second : (row : ℕ) → row ≡ p1'_row k → (channel ≡ 5 → ⊥) → channel ≡ 6
      → (row < 2) × (bit < frame_bits row) × (p1'_writing row frame bit ≡ writing_in k channel frame bit)
  unfolding writing_in
  in-second row row_is m e =
      let (lr, lc) = second-coded k bit (inside 6 e) in
      (rw row_is lr, rw row_is lc, rw (ne_eqb channel 5 m, eq-eqb channel 6 e, row_is))

  pub in-p1 : (channel ≡ 5 → ⊥) → (channel ≡ 6 → ⊥) → (frame * n + bit < 365440) × (p1_writing (frame * n + bit) ≡ writing_in k channel frame bit)
  unfolding writing_in
  in-p1 m o = go (ℕ_discrete channel 1)
    where
      go : Dec (channel ≡ 1) → (frame * n + bit < 365440) × (p1_writing (frame * n + bit) ≡ writing_in k channel frame bit)
      go (yes e) =
          let (same, l) = p1-coded k frame bit in-eight (inside 1 e) in
          let n-one : n ≡ coded_length (rate_in 1) (bits_in k 1) = n-is ∙ ap (λ (c : ℕ). coded_length (rate_in c) (bits_in k c)) e in
          (rw n-one l, rw (ne_eqb channel 5 m, ne_eqb channel 6 o, n-one ∙ same))
      go (no u) =
          let none : n ≡ 0 = n-is ∙ ap (coded_length (rate_in channel)) (none_in k channel u m o) ∙ none-coded (rate_in channel) in
          absurd (omega (arith, none, lb))
