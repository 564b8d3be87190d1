-- The working in six modes is as before in the older modes, and explains its coded bit: in the mode's own channels as `shown-explains` says of any. Assumes
-- nothing.
use mathlib.Core.Path.{◌≡◌, refl, sym, ap, subst, ◌∙◌}
use mathlib.Core.Bool.{Bool, true, false, cond}
use mathlib.Core.List.{List}
use Prim.Native.Nat.{ℕ, ◌*◌, ◌/◌, ◌<◌}
use native.Mathlib.Omega.{arith}
use borrow.Author.Tests.{eqb-true, ltb-true}
use lib.Dec.{eqb, ltb}
use lib.ListN.{length}
use Rattle.bits.specs.Bits.{bit_at}
use Rattle.coding.specs.Rates.{coded_length}
use Rattle.runs.specs.declared.Answer.TheVariants.{Success, StateNotValid, WrongLength}
use Rattle.runs.specs.declared.Main.{Main}
use Rattle.runs.specs.declared.Main.TheVariants.{Plain}
use Rattle.runs.specs.declared.State.{State}
use Rattle.runs.specs.MainChannels.{main_of}
use Rattle.runs.specs.Starting.{valid}
use Rattle.finding_px.specs.Finder.{as_older}
use Rattle.workings.specs.declared.Worked.{Worked}
use Rattle.workings.specs.Shown.{rate_of, bits_of, refused, meant, worked}
use Rattle.workings.specs.Explained.{Explains}
use Rattle.workings.proofs.Cases as before
use Rattle.workings.proofs.Meant.{worked-by}
use Rattle.workings.proofs.Explained.{explained, shown-explains}
use Rattle.workings_in.specs.Shown.{rate_in, frames_in, bits_in, writing_in, own_of, worked_in}
use Rattle.workings_in.specs.InRuns.{AsBefore, Explained}
use Rattle.workings_in.proofs.Sizes.{whole_in}
use Rattle.workings_in.proofs.Cases.{state-refused, as-older, own, inside}

-- ---- as before

module _ (s : State) (is : main_of s.mode ≡ Plain) where
  same : (number : ℕ) (frames : List ℕ) (frame bit : ℕ) → (b : Bool) → valid s ≡ b → worked_in s number frames frame bit ≡ worked s number frames frame bit
  same number frames frame bit true v = sym (as-older s number frame bit frames v Plain (sym is) 0 refl refl)
  same number frames frame bit false v =
      sym (state-refused s number frame bit frames v)
      ∙ before.state-refused s number frame bit (meant s.mode number frames) v
      ∙ worked-by s number (meant s.mode number frames) frames frame bit refl

  pub as-before-worked : AsBefore s
  as-before-worked = record { works = λ number frames frame bit. same number frames frame bit (valid s) refl }

-- ---- the mode's own channels

-- the tests that a working passed
passed : (c d e : Bool) (w : Worked)
    → (cond c (cond d (cond e w (refused (WrongLength 3))) (refused (WrongLength 2))) (refused (WrongLength 1))).answer ≡ Success
    → (c ≡ true) × (d ≡ true) × (e ≡ true)
unfolding refused
passed true true true w h = (refl, refl, refl)
passed true true false w h = let z : ◌≡◌ {A = ℕ} 0 1 = cc in absurd (omega arith)
passed true false e w h = let z : ◌≡◌ {A = ℕ} 0 1 = cc in absurd (omega arith)
passed false d e w h = let z : ◌≡◌ {A = ℕ} 0 1 = cc in absurd (omega arith)

module _ (k : Main) (number : ℕ) (frames : List ℕ) (frame bit : ℕ) where
  abbrev n : ℕ
  n = bits_in k number

  tests : (own_of k number frames frame bit).answer ≡ Success
      → (eqb (length frames) (frames_in number * n / 8) ≡ true) × (ltb frame (frames_in number) ≡ true) × (ltb bit (coded_length (rate_in number) n) ≡ true)
  unfolding own_of
  tests h = passed (eqb (length frames) (frames_in number * n / 8)) (ltb frame (frames_in number)) (ltb bit (coded_length (rate_in number) n)) _ h

  own-explains : 0 < n → (own_of k number frames frame bit).answer ≡ Success
      → Explains (rate_in number) n (bit_at frames) frame bit (own_of k number frames frame bit)
  own-explains some h =
      let (c, d, e) = tests h in
      let lb = ltb-true bit (coded_length (rate_in number) n) e in
      let w = whole_in k number n refl some in
      subst (Explains (rate_in number) n (bit_at frames) frame bit)
      (inside k number frame bit frames n refl (frames_in number) refl (eqb-true (length frames) (frames_in number * n / 8) c)
      (ltb-true frame (frames_in number) d) (rate_in number) refl lb (writing_in k number frame bit) refl)
      (shown-explains (rate_in number) n (bit_at frames) frame bit (omega (arith, w.bytes)) lb (writing_in k number frame bit))

-- ---- every working that is not refused

not_valid : (refused StateNotValid).answer ≡ Success → ⊥
unfolding refused
not_valid h = let z : ◌≡◌ {A = ℕ} 0 1 = cc in omega arith

module _ (s : State) (number : ℕ) (frames : List ℕ) (frame bit : ℕ) (h : (worked_in s number frames frame bit).answer ≡ Success) where
  abbrev main : Main
  main = main_of s.mode

  is-valid : valid s ≡ true
  is-valid = go (valid s) refl
    where
      go : (b : Bool) → valid s ≡ b → valid s ≡ true
      go true v = v
      go false v = absurd (not_valid (ap (λ (w : Worked). w.answer) (state-refused s number frame bit frames v) ∙ h))

  explained-own : (bits_in main number ≡ 0 → ⊥) → Explains (rate_in number) (bits_in main number) (bit_at frames) frame bit (worked_in s number frames frame bit)
  explained-own ne =
      let e = own s number frame bit frames is-valid main refl (bits_in main number) refl ne in
      let some : 0 < bits_in main number = omega (arith, ne) in
      subst (Explains (rate_in number) (bits_in main number) (bit_at frames) frame bit) e
      (own-explains main number frames frame bit some (ap (λ (w : Worked). w.answer) e ∙ h))

  explained-older : bits_in main number ≡ 0
      → let mode = (as_older main s).mode in
      Explains (rate_of number) (bits_of mode number) (bit_at (meant mode number frames)) frame bit (worked_in s number frames frame bit)
  explained-older z =
      let e = as-older s number frame bit frames is-valid main refl (bits_in main number) refl z in
      subst (Explains (rate_of number) (bits_of (as_older main s).mode number) (bit_at (meant (as_older main s).mode number frames)) frame bit) e
      (explained (as_older main s) number frames frame bit (ap (λ (w : Worked). w.answer) e ∙ h))

  pub explained-in : Explained s number frames frame bit
  explained-in = record { own = explained-own; as-older = explained-older }
