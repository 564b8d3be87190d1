-- The first causes of a sending and a reading, case by case, and what an answer of number 0 says. Assumes nothing.
use mathlib.Core.Path.{◌≡◌, refl, ◌∙◌}
use mathlib.Core.Bool.{Bool, true, false, cond, not, ◌&&◌}
use mathlib.Core.Option.{Option, none, some}
use mathlib.Core.List.{List, [], ◌∷◌, ◌++◌}
use Prim.Native.Nat.{ℕ, ◌%◌, ◌<◌, ◌≤◌}
use native.Mathlib.Omega.{arith}
use borrow.Author.Tests.{eqb-true, ltb-true, lt-ltb, le-ltb}
use lib.Dec.{eqb, ltb}
use Rattle.bits.proofs.Tests.{and-true}
use Rattle.control.specs.Modes.{covered}
use Rattle.control.proofs.Covered.{covered-lt}
use Rattle.runs.specs.declared.Answer.{Answer}
use Rattle.runs.specs.declared.Answer.TheVariants.{Success, StateNotValid, ReservedTooHigh, WrongLength}
use Rattle.runs.specs.declared.Extended.TheVariants.{P3, P4}
use Rattle.runs.specs.declared.Kind.{Kind}
use Rattle.runs.specs.declared.State.{State}
use Rattle.runs.specs.Answers.{number_of}
use Rattle.runs.specs.Causes.{at, judge, when, wrong}
use Rattle.runs.specs.MainChannels.{main_of, last_age}
use Rattle.runs.specs.Lengths.{kind_of, pids_len, pm_len, control_len}
use Rattle.runs.specs.Lent.{Lent, Memory}
use Rattle.runs.specs.Starting.{aged, memory_sizes, valid}
use Rattle.runs.specs.Sending.{lent_sizes}
use Rattle.runs.proofs.Passing.{wrong-head}
use Rattle.calls.specs.Admitted.{admitted, first_cause}
use Rattle.calls.specs.Fits.{Fits}
use Rattle.modes.specs.Sizes.{lengths_of, placed, sizes, wanted}

module _ (v : Bool) (z : ℕ) where
  pub state-refused : (o : Option ℕ) → v ≡ false → StateNotValid ≡ first_cause v z o
  unfolding first_cause judge
  state-refused o h = rw h

  module _ (h : v ≡ true) where
    pub number-refused : (o : Option ℕ) → 8 ≤ z → ReservedTooHigh ≡ first_cause v z o
    unfolding first_cause judge
    number-refused o high = rw (h, le-ltb z 8 high)

    module _ (low : z < 8) (n place : ℕ) where
      pub length-refused : place < n → WrongLength place ≡ first_cause v z (placed n place)
      unfolding first_cause judge
      length-refused l = rw (h, lt-ltb z 8 low, lt-ltb place n l)

      pub accepted : n ≤ place → Success ≡ first_cause v z (placed n place)
      unfolding first_cause judge
      accepted l = rw (h, lt-ltb z 8 low, le-ltb place n l)

-- the same cause from what is shown equal
pub cause-alike : (a : Answer) (v w : Bool) (z : ℕ) (o p : Option ℕ) → a ≡ first_cause v z o → v ≡ w → o ≡ p → a ≡ first_cause w z p
cause-alike a v w z o p e h k = e ∙ (λ i. first_cause (h i) z (k i))

-- an answer of number 0 says that the state is valid, the number up to 7 and each length right
pub clear : (s : State) (z : ℕ) (o : Option ℕ) → number_of (admitted s z o) ≡ 0 → (valid s ≡ true) × (z < 8) × (o ≡ none)
unfolding first_cause judge
clear s z o e = let (v, low, none-wrong) = go (valid s) (ltb z 8) o e in (v, ltb-true z 8 low, none-wrong)
  where
    go : (b c : Bool) (o : Option ℕ)
        → number_of (judge (when (not b) StateNotValid ∷ when (not c) ReservedTooHigh ∷ at WrongLength o ∷ [])) ≡ 0
        → (b ≡ true) × (c ≡ true) × (o ≡ none)
    go true true none e = (refl, refl, refl)
    go true true (some k) e = absurd (omega arith)
    go true false o e = absurd (omega arith)
    go false c o e = absurd (omega arith)

half_of : (last half age : ℕ) → aged last half age ≡ true → half < 2
unfolding aged
half_of last half age = go (ltb age last)
  where
    go : (a : Bool) → cond a (eqb half (age % 2)) (eqb age last && ltb half 2) ≡ true → half < 2
    go true e = let z : half ≡ age % 2 = eqb-true half (age % 2) e in omega arith
    go false e = ltb-true half 2 (and-true (eqb age last) (ltb half 2) e).1

-- what a valid state says
pub valid-says : (s : State) → valid s ≡ true → (covered s.mode ≡ true) × (s.half < 2)
unfolding valid
valid-says s v =
    let old = aged (last_age (main_of s.mode)) s.half s.age in
    let (cov, e) = and-true (covered s.mode) old (and-true (covered s.mode && old) (ltb s.reserved 8) v).0 in
    (cov, half_of (last_age (main_of s.mode)) s.half s.age e)

module _ (len : Kind → ℕ) (s : State) (m : Memory) (l : Lent) where
  -- the lengths that the code compares are the table's
  pub compared : (have want : List ℕ) → have ≡ lengths_of l m → want ≡ wanted s.mode (len (kind_of s.mode P3)) (len (kind_of s.mode P4))
      → sizes have want ≡ lent_sizes s.mode l ++ memory_sizes len s.mode m
  unfolding memory_sizes sizes lent_sizes
  compared have want h w = rw (h, w)

  pub fits : valid s ≡ true → l.frames.reserved < 8 → wrong 0 (lent_sizes s.mode l ++ memory_sizes len s.mode m) ≡ none → Fits len s m l
  unfolding lent_sizes memory_sizes pids_len pm_len control_len
  fits v low e =
      let (cov, half) = valid-says s v in
      let (e₀, r₁) = wrong-head _ _ _ _ e in
      let (e₁, r₂) = wrong-head _ _ _ _ r₁ in
      let (e₂, r₃) = wrong-head _ _ _ _ r₂ in
      let (e₃, r₄) = wrong-head _ _ _ _ r₃ in
      let (e₄, r₅) = wrong-head _ _ _ _ r₄ in
      let (e₅, r₆) = wrong-head _ _ _ _ r₅ in
      let (e₆, r₇) = wrong-head _ _ _ _ r₆ in
      let (e₇, r₈) = wrong-head _ _ _ _ r₇ in
      let (e₈, r₉) = wrong-head _ _ _ _ r₈ in
      let (e₉, r₁₀) = wrong-head _ _ _ _ r₉ in
      let (e₁₀, r₁₁) = wrong-head _ _ _ _ r₁₀ in
      let (e₁₁, r) = wrong-head _ _ _ _ r₁₁ in
      record {
        mode-lt = covered-lt s.mode cov;
        half_lt = half;
        reserved-lt = low;
        p1 = e₀;
        pids = e₁;
        p2 = e₂;
        p3 = e₃;
        p4 = e₄;
        pm = e₅;
        px1 = e₆;
        px2 = e₇;
        control = e₈;
        memory3 = e₉;
        memory4 = e₁₀;
        delay = e₁₁;
      }
