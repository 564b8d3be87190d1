-- The finder and the locator of six modes are those of the older ones with the bit of U told by its channel: so they answer as before in the older modes,
-- undo each other, and say what stands in every run. Assumes nothing.
use mathlib.Core.Path.{◌≡◌, refl, sym, ap, ap₂, subst, ◌∙◌}
use mathlib.Core.Bool.{true}
use mathlib.Core.Logic.{inl, inr}
use Prim.Native.Nat.{ℕ, ◌+◌, ◌-◌, ◌*◌, ◌/◌, ◌%◌, ◌<◌, ◌≤◌}
use native.Mathlib.Decide.{dec_lt, ℕ_discrete}
use native.Mathlib.Omega.{arith}
use native.Mathlib.Nat.{div-add-mod'}
use Rattle.std.specs.Prelude.{Result, Ok, Err}
use Rattle.bits.specs.Bits.{bit_at}
use Rattle.coding.specs.declared.Rate.TheVariants.{TwoFifths}
use Rattle.coding.specs.Channel.{channel}
use Rattle.control.specs.Modes.{covered}
use Rattle.interleaving.specs.PM.{p1_place}
use Rattle.runs.specs.declared.Answer.{Answer}
use Rattle.runs.specs.declared.Main.{Main}
use Rattle.runs.specs.declared.Main.TheVariants.{Plain, Mp5, Mp6}
use Rattle.runs.specs.MainChannels.{main_of, p1_bits, p1_frames, p2_bits}
use Rattle.runs.specs.Chain.{p1_coded}
use Rattle.runs.specs.Runs.{SenderRun, count, frame_at, matrices_at}
use Rattle.runs.proofs.Sender.{covered_of}
use Rattle.runs.proofs.Shown.{p1-shown, p2-shown, pids-shown}
use Rattle.queries.specs.declared.finder.Found.{Found}
use Rattle.queries.specs.declared.finder.Found.TheVariants as finder
use Rattle.queries.specs.Finder.{found}
use Rattle.queries.proofs.Placing.{found_inside}
use Rattle.queries.proofs.Stands.{found-stands}
use Rattle.queries.proofs.Valued.{ok-is}
use Rattle.locating.specs.declared.locator.Located.{Located}
use Rattle.locating.specs.Locator.{located}
use Rattle.locating.specs.BothWays as older
use Rattle.locating.proofs.AgainPM.{both_ways}
use Rattle.locating.proofs.CasesPM as pm
use Rattle.finding.specs.declared.finder.Owner.{Owner}
use Rattle.finding.specs.declared.finder.Owner.TheVariants.{P1, P2, Pids}
use Rattle.finding.specs.VectorU.{frame_coded, p2_coded}
use Rattle.finding.specs.Finder.{found_in, owner_in, told}
use Rattle.finding.specs.Locator.{located_in, p1_in}
use Rattle.finding.specs.InRuns.{AsBefore, BothWays, Sheet, as_owner, found_again, located_again}
use Rattle.finding.proofs.Cases.{together, in-frames, of-p1, of-p2, found_some, found-told}
use Rattle.finding.proofs.Cases.{p1-frame-out, p1-bit-out, p1-in, p2-in, located-p1, located-p2, located-other}

-- ---- bits of U

-- the cell finder names no bit past its end
p1-lt : (row column bit : ℕ) → found row column ≡ Ok (finder.P1 bit) → bit < 365440
p1-lt row column bit e =
    let (lr, lc) = found_inside row column (λ r n. let z : ◌≡◌ {A = ℕ} 0 1 = cc in omega arith) in
    elim (found-stands row column lr lc) [
      | inl (i, x) ↦
          let named = x.named in
          let same : i ≡ bit = cc in
          subst (λ (u : ℕ). u < 365440) same x.inside
      | inr (f, i, x) ↦
          let named = x.named in
          let z : ◌≡◌ {A = ℕ} 0 1 = cc in
          absurd (omega arith)
    ]

-- bit i of the P1 frames is a bit of one of them
frame-lt : (k : Main) (i : ℕ) → i < p1_coded k → i / frame_coded k < p1_frames k
frame-lt Plain i l = omega arith
frame-lt Mp5 i l = omega arith
frame-lt Mp6 i l = omega arith

bit-lt : (k : Main) (i : ℕ) → i % frame_coded k < frame_coded k
bit-lt Plain i = omega arith
bit-lt Mp5 i = omega arith
bit-lt Mp6 i = omega arith

frame_is : (k : Main) (frame bit : ℕ) → bit < frame_coded k → (frame * frame_coded k + bit) / frame_coded k ≡ frame
frame_is Plain frame bit l = omega arith
frame_is Mp5 frame bit l = omega arith
frame_is Mp6 frame bit l = omega arith

bit_is : (k : Main) (frame bit : ℕ) → bit < frame_coded k → (frame * frame_coded k + bit) % frame_coded k ≡ bit
bit_is Plain frame bit l = omega arith
bit_is Mp5 frame bit l = omega arith
bit_is Mp6 frame bit l = omega arith

whole : (k : Main) (i : ℕ) → i / frame_coded k * frame_coded k + i % frame_coded k ≡ i
whole k i = div-add-mod' i (frame_coded k)

-- ---- in the older modes U is the one P1 frame

plain-owner : (i : ℕ) → i < 365440 → owner_in Plain i ≡ P1 0 i
plain-owner i l = sym (of-p1 Plain i l) ∙ ap₂ P1 (omega arith) (omega arith)

plain-told : (f : Result Found Answer) → ((i : ℕ) → f ≡ Ok (finder.P1 i) → i < 365440) → told Plain f ≡ as_owner f
plain-told (Ok (finder.P1 i)) l = ap Ok (plain-owner i (l i refl))
plain-told (Ok (finder.Pids frame bit)) l = refl
plain-told (Err answer) l = refl

plain-p1 : (frame bit : ℕ) → p1_in Plain frame bit ≡ located 1 frame bit
plain-p1 frame bit = go (dec_lt frame 1) (dec_lt bit 365440)
  where
    go : Dec (frame < 1) → Dec (bit < 365440) → p1_in Plain frame bit ≡ located 1 frame bit
    go (no f) b = sym (p1-frame-out Plain frame bit (omega arith)) ∙ pm.p1-frame-out frame bit (omega arith) ∙ pm.of-p1 frame bit 1 refl
    go (yes f) (no b) = sym (p1-bit-out Plain frame bit f (omega arith)) ∙ pm.p1-bit-out frame bit f (omega arith) ∙ pm.of-p1 frame bit 1 refl
    go (yes f) (yes b) =
        sym (p1-in Plain frame bit f b) ∙ ap₂ (λ (u i : ℕ). located 1 u i) (omega arith) (omega arith)

module _ (mode : ℕ) (is : covered mode ≡ true) where
  abbrev k : Main
  k = main_of mode

  module _ (plain : main_of mode ≡ Plain) where
    as-found : (row column : ℕ) → found_in mode row column ≡ as_owner (found row column)
    as-found row column =
        sym (found_some mode row column is) ∙ ap (λ (m : Main). told m (found row column)) plain ∙ plain-told (found row column) (p1-lt row column)

    as-located : (channel frame bit : ℕ) → channel < 5 → located_in mode channel frame bit ≡ located channel frame bit
    as-located channel frame bit l = go (ℕ_discrete channel 1)
      where
        go : Dec (channel ≡ 1) → located_in mode channel frame bit ≡ located channel frame bit
        go (yes e) =
            sym (located-p1 mode channel frame bit is e) ∙ ap (λ (m : Main). p1_in m frame bit) plain ∙ plain-p1 frame bit
            ∙ ap (λ (u : ℕ). located u frame bit) (sym e)
        go (no n) = sym (located-other mode channel frame bit is n (λ e. omega arith))

    pub as_before : AsBefore mode
    as_before = record { finds = as-found; locates = as-located }

  -- ---- both ways

  again : (x : Result Located Answer) → found_again mode x ≡ told (main_of mode) (older.found_again x)
  again (Ok cell) = sym (found_some mode cell.row cell.column is)
  again (Err answer) = refl

  p1-again : (frame bit : ℕ) → frame < p1_frames k → bit < frame_coded k → found_again mode (located_in mode 1 frame bit) ≡ Ok (P1 frame bit)
  p1-again frame bit lf lb =
      let i : ℕ = frame * frame_coded k + bit in
      let l = in-frames k frame bit lf lb in
      let h : frame * frame_coded k + bit < 365440 = omega (arith, l, together k) in
      ap (found_again mode) (sym (p1-in k frame bit lf lb ∙ located-p1 mode 1 frame bit is refl))
      ∙ again (located 1 0 (frame * frame_coded k + bit))
      ∙ ap (told k) (both_ways.p1-there (frame * frame_coded k + bit) h)
      ∙ ap Ok (sym (of-p1 k (frame * frame_coded k + bit) l) ∙ ap₂ P1 (frame_is k frame bit lb) (bit_is k frame bit lb))

  p2-again : (bit : ℕ) → bit < p2_coded k → found_again mode (located_in mode 5 0 bit) ≡ Ok (P2 bit)
  p2-again bit l =
      let h : p1_coded k + bit < 365440 = omega (arith, l, together k) in
      let some : p2_coded k ≡ 0 → ⊥ = λ e. omega (arith, e, l) in
      let first : p1_coded k ≤ p1_coded k + bit = omega arith in
      let back : p1_coded k + bit - p1_coded k ≡ bit = omega arith in
      ap (found_again mode) (sym (p2-in k 0 bit some (omega arith) l ∙ located-p2 mode 5 0 bit is (λ e. omega arith) refl))
      ∙ again (located 1 0 (p1_coded k + bit))
      ∙ ap (told k) (both_ways.p1-there (p1_coded k + bit) h)
      ∙ ap Ok (sym (of-p2 k (p1_coded k + bit) first) ∙ ap P2 back)

  pids-again : (frame bit : ℕ) → frame < 16 → bit < 200 → found_again mode (located_in mode 2 frame bit) ≡ Ok (Pids frame bit)
  pids-again frame bit lf lb =
      ap (found_again mode) (sym (located-other mode 2 frame bit is (λ e. omega arith) (λ e. omega arith)))
      ∙ again (located 2 frame bit)
      ∙ ap (told k) (both_ways.pids-there frame bit lf lb)

  u-again : (i : ℕ) → i < 365440 → located_again mode (Ok (owner_in k i)) ≡ located 1 0 i
  u-again i l = go (dec_lt i (p1_coded k))
    where
      go : Dec (i < p1_coded k) → located_again mode (Ok (owner_in k i)) ≡ located 1 0 i
      go (yes h) =
          ap (λ o. located_again mode (Ok o)) (sym (of-p1 k i h))
          ∙ sym (p1-in k (i / frame_coded k) (i % frame_coded k) (frame-lt k i h) (bit-lt k i) ∙ located-p1 mode 1 _ _ is refl)
          ∙ ap (located 1 0) (whole k i)
      go (no h) =
          let n : p1_coded k ≤ i = omega arith in
          let b : i - p1_coded k < p2_coded k = omega (arith, together k) in
          let some : p2_coded k ≡ 0 → ⊥ = λ e. omega (arith, e, b) in
          let sum : p1_coded k + (i - p1_coded k) ≡ i = omega arith in
          ap (λ o. located_again mode (Ok o)) (sym (of-p2 k i n))
          ∙ sym (p2-in k 0 (i - p1_coded k) some (omega arith) b ∙ located-p2 mode 5 0 _ is (λ e. omega arith) refl)
          ∙ ap (located 1 0) sum

  told-again : (f : Result Found Answer) → ((i : ℕ) → f ≡ Ok (finder.P1 i) → i < 365440) → located_again mode (told k f) ≡ older.located_again f
  told-again (Ok (finder.P1 i)) l = u-again i (l i refl)
  told-again (Ok (finder.Pids frame bit)) l = sym (located-other mode 2 frame bit is (λ e. omega arith) (λ e. omega arith))
  told-again (Err answer) l = refl

  pub both-ways-in : BothWays mode
  both-ways-in =
      record {
        p1-there = p1-again;
        p2-there = p2-again;
        pids-there = pids-again;
        back = λ row column lr lc.
            ap (located_again mode) (sym (found_some mode row column is))
            ∙ told-again (found row column) (p1-lt row column)
            ∙ both_ways.back row column lr lc;
      }

-- ---- in every run

module _ (mode : ℕ) (a : SenderRun mode) (t : ℕ) (h : t < count mode a) (row column : ℕ) where
  abbrev main : Main
  main = main_of mode

  is : covered mode ≡ true
  is = covered_of mode a

  -- of a cell that is not refused
  inside : (o : Result Owner Answer) → found_in mode row column ≡ o → ((answer : Answer) → o ≡ Err answer → ⊥) → (row < 512) × (column < 720)
  inside o e n = found_inside row column (λ r f. n r (sym e ∙ sym (found-told mode row column is (Err r) f)))

  p1-in-cell : (frame bit : ℕ) → found_in mode row column ≡ Ok (P1 frame bit)
      → bit_at (matrices_at mode a t).pm (row * 720 + column)
      ≡ channel TwoFifths (p1_bits main) (bit_at (frame_at mode a t).p1) (frame * frame_coded main + bit)
  p1-in-cell frame bit e =
      let (lr, lc) = inside (Ok (P1 frame bit)) e (λ r n. let z : ◌≡◌ {A = ℕ} 0 1 = cc in omega arith) in
      elim (found-stands row column lr lc) [
        | inl (i, x) ↦ go i x.stands (ok-is (found-told mode row column is (Ok (finder.P1 i)) x.named ∙ e)) (dec_lt i (p1_coded main))
        | inr (f, i, x) ↦
            let told-pids = found-told mode row column is (Ok (finder.Pids f i)) x.named ∙ e in
            let z : ◌≡◌ {A = ℕ} 0 1 = cc in
            absurd (omega arith)
      ]
    where
      go : (i : ℕ) → p1_place i ≡ row * 720 + column → owner_in main i ≡ P1 frame bit → Dec (i < p1_coded main)
          → bit_at (matrices_at mode a t).pm (row * 720 + column)
          ≡ channel TwoFifths (p1_bits main) (bit_at (frame_at mode a t).p1) (frame * frame_coded main + bit)
      go i s n (yes l) =
          let own = of-p1 main i l ∙ n in
          let same-frame : i / frame_coded main ≡ frame = cc in
          let same : i % frame_coded main ≡ bit = cc in
          ap (bit_at (matrices_at mode a t).pm) (sym s)
          ∙ p1-shown mode a t h i l
          ∙ ap (channel TwoFifths (p1_bits main) (bit_at (frame_at mode a t).p1))
          (sym (whole main i) ∙ ap₂ (λ (f b : ℕ). f * frame_coded main + b) same-frame same)
      go i s n (no l) =
          let own = of-p2 main i (omega arith) ∙ n in
          let z : ◌≡◌ {A = ℕ} 0 1 = cc in
          absurd (omega arith)

  p2-in-cell : (bit : ℕ) → found_in mode row column ≡ Ok (P2 bit)
      → bit_at (matrices_at mode a t).pm (row * 720 + column) ≡ channel TwoFifths (p2_bits main) (bit_at (frame_at mode a t).p2) bit
  p2-in-cell bit e =
      let (lr, lc) = inside (Ok (P2 bit)) e (λ r n. let z : ◌≡◌ {A = ℕ} 0 1 = cc in omega arith) in
      elim (found-stands row column lr lc) [
        | inl (i, x) ↦ go i x.inside x.stands (ok-is (found-told mode row column is (Ok (finder.P1 i)) x.named ∙ e)) (dec_lt i (p1_coded main))
        | inr (f, i, x) ↦
            let told-pids = found-told mode row column is (Ok (finder.Pids f i)) x.named ∙ e in
            let z : ◌≡◌ {A = ℕ} 0 1 = cc in
            absurd (omega arith)
      ]
    where
      go : (i : ℕ) → i < 365440 → p1_place i ≡ row * 720 + column → owner_in main i ≡ P2 bit → Dec (i < p1_coded main)
          → bit_at (matrices_at mode a t).pm (row * 720 + column) ≡ channel TwoFifths (p2_bits main) (bit_at (frame_at mode a t).p2) bit
      go i u s n (yes l) =
          let own = of-p1 main i l ∙ n in
          let z : ◌≡◌ {A = ℕ} 0 1 = cc in
          absurd (omega arith)
      go i u s n (no l) =
          let first : p1_coded main ≤ i = omega arith in
          let own = of-p2 main i first ∙ n in
          let same : i - p1_coded main ≡ bit = cc in
          let place : p1_coded main + bit ≡ i = omega (arith, same, first) in
          let small : bit < p2_coded main = omega (arith, same, first, together main) in
          ap (bit_at (matrices_at mode a t).pm) (sym s ∙ ap p1_place (sym place)) ∙ p2-shown mode a t h bit small

  pids-in-cell : (frame bit : ℕ) → found_in mode row column ≡ Ok (Pids frame bit)
      → bit_at (matrices_at mode a t).pm (row * 720 + column) ≡ channel TwoFifths 80 (bit_at (frame_at mode a t).pids) (frame * 200 + bit)
  pids-in-cell frame bit e =
      let (lr, lc) = inside (Ok (Pids frame bit)) e (λ r n. let z : ◌≡◌ {A = ℕ} 0 1 = cc in omega arith) in
      elim (found-stands row column lr lc) [
        | inl (i, x) ↦ go i (ok-is (found-told mode row column is (Ok (finder.P1 i)) x.named ∙ e)) (dec_lt i (p1_coded main))
        | inr (f, i, x) ↦
            let told-pids = found-told mode row column is (Ok (finder.Pids f i)) x.named ∙ e in
            let same-frame : f ≡ frame = cc in
            let same : i ≡ bit = cc in
            ap (bit_at (matrices_at mode a t).pm) (sym x.stands)
            ∙ pids-shown mode a t h (f * 200 + i) (omega (arith, x.inside.0, x.inside.1))
            ∙ ap₂ (λ (u b : ℕ). channel TwoFifths 80 (bit_at (frame_at mode a t).pids) (u * 200 + b)) same-frame same
      ]
    where
      go : (i : ℕ) → owner_in main i ≡ Pids frame bit → Dec (i < p1_coded main)
          → bit_at (matrices_at mode a t).pm (row * 720 + column) ≡ channel TwoFifths 80 (bit_at (frame_at mode a t).pids) (frame * 200 + bit)
      go i n (yes l) =
          let own = of-p1 main i l ∙ n in
          let z : ◌≡◌ {A = ℕ} 0 1 = cc in
          absurd (omega arith)
      go i n (no l) =
          let own = of-p2 main i (omega arith) ∙ n in
          let z : ◌≡◌ {A = ℕ} 0 1 = cc in
          absurd (omega arith)

pub sheets-in : (mode : ℕ) (a : SenderRun mode) (t : ℕ) → t < count mode a → Sheet mode a t
sheets-in mode a t h =
    record {
      p1-cell = λ row column. p1-in-cell mode a t h row column;
      p2-cell = λ row column. p2-in-cell mode a t h row column;
      pids-cell = λ row column. pids-in-cell mode a t h row column;
    }
