-- A call either succeeds or is refused. Assumes nothing.
use mathlib.Core.Path.{◌≡◌, refl, sym, ap, ◌∙◌}
use mathlib.Core.Logic.{◌⊎◌, inl, inr, ◌≢◌}
use native.Mathlib.Omega.{arith}
use Rattle.runs.specs.declared.Answer.{Answer}
use Rattle.runs.specs.declared.Answer.TheVariants.{Success, ModeNotCovered, StateNotValid, WrongLength, WrongControl, MainNotCoded, PidsNotCoded, FillNotZero, ExtendedNotCoded, ReservedTooHigh, SharesTooMany, SymbolTooHigh, ScaleNotUsable, MixedControl, NoFrameFits, SeveralFit, WrongBudget, WrongMark, WrongVersion, WrongEnd}
use Rattle.runs.specs.Answers.{number_of, on_success}
use Rattle.runs.specs.Lent.{Result}

either : {A : Type 0} (a : Answer) → (a ≡ Success) ⊎ ((done refused : A) → on_success a done refused ≡ refused)
unfolding on_success
either Success = inl refl
either ModeNotCovered = inr (λ x y. refl)
either StateNotValid = inr (λ x y. refl)
either (WrongLength k) = inr (λ x y. refl)
either (WrongControl k) = inr (λ x y. refl)
either (MainNotCoded k) = inr (λ x y. refl)
either (PidsNotCoded k) = inr (λ x y. refl)
either (FillNotZero k) = inr (λ x y. refl)
either (ExtendedNotCoded k) = inr (λ x y. refl)
either ReservedTooHigh = inr (λ x y. refl)
either SharesTooMany = inr (λ x y. refl)
either SymbolTooHigh = inr (λ x y. refl)
either (ScaleNotUsable k) = inr (λ x y. refl)
either (MixedControl k) = inr (λ x y. refl)
either NoFrameFits = inr (λ x y. refl)
either SeveralFit = inr (λ x y. refl)
either WrongBudget = inr (λ x y. refl)
either WrongMark = inr (λ x y. refl)
either WrongVersion = inr (λ x y. refl)
either WrongEnd = inr (λ x y. refl)

on-done : (done refused : Result) → on_success Success done refused ≡ done
unfolding on_success
on-done done refused = refl

-- what holds of both outcomes holds of the one that comes, and what is made of each is made of it
pub on_both : {A : Type 0} (P : A → Type 0) (a : Answer) (done refused : A) → P done → P refused → P (on_success a done refused)
unfolding on_success
on_both {A} P a done refused p q = go (either a)
  where
    go : (a ≡ Success) ⊎ ((x y : A) → on_success a x y ≡ y) → P (on_success a done refused)
    go (inl e) = rw e p
    go (inr f) = rw (f done refused) q

pub on-each : (g : Result → Result) (a : Answer) (done refused : Result) → g (on_success a done refused) ≡ on_success a (g done) (g refused)
unfolding on_success
on-each g a done refused = go (either a)
  where
    go : (a ≡ Success) ⊎ ((x y : Result) → on_success a x y ≡ y) → g (on_success a done refused) ≡ on_success a (g done) (g refused)
    go (inl e) = rw e
    go (inr f) = ap g (f done refused) ∙ sym (f (g done) (g refused))

-- a call whose number is not 0 was refused
pub refused-is : (a : Answer) (done refused : Result) → number_of done.answer ≡ 0 → number_of (on_success a done refused).answer ≢ 0
    → on_success a done refused ≡ refused
refused-is a done refused ok ne = go (either a)
  where
    go : (a ≡ Success) ⊎ ((x y : Result) → on_success a x y ≡ y) → on_success a done refused ≡ refused
    go (inl e) = absurd (ne (ap (λ (x : Answer). number_of (on_success x done refused).answer) e ∙ ap (λ (r : Result). number_of r.answer) (on-done done refused) ∙ ok))
    go (inr f) = f done refused

-- any other answer than success is a refusal
pub not-success : {A : Type 0} (a : Answer) (done refused : A) → a ≢ Success → on_success a done refused ≡ refused
not-success {A} a done refused ne = go (either a)
  where
    go : (a ≡ Success) ⊎ ((x y : A) → on_success a x y ≡ y) → on_success a done refused ≡ refused
    go (inl e) = absurd (ne e)
    go (inr f) = f done refused

-- and success is done
pub success-done : {A : Type 0} (a : Answer) (done refused : A) → a ≡ Success → on_success a done refused ≡ done
unfolding on_success
success-done a done refused e = ap (λ (x : Answer). on_success x done refused) e

-- the answer goes out either way
pub answer-out : {A : Type 0} (out : A → Answer) (a : Answer) (done refused : A) → out done ≡ Success → out refused ≡ a
    → out (on_success a done refused) ≡ a
answer-out {A} out a done refused d r = go (either a)
  where
    go : (a ≡ Success) ⊎ ((x y : A) → on_success a x y ≡ y) → out (on_success a done refused) ≡ a
    go (inl e) = ap out (success-done a done refused e) ∙ d ∙ sym e
    go (inr f) = ap out (f done refused) ∙ r

-- the number 0 is success alone
pub success-is : (a : Answer) → number_of a ≡ 0 → a ≡ Success
success-is Success e = refl
success-is ModeNotCovered e = absurd (omega arith)
success-is StateNotValid e = absurd (omega arith)
success-is (WrongLength k) e = absurd (omega arith)
success-is (WrongControl k) e = absurd (omega arith)
success-is (MainNotCoded k) e = absurd (omega arith)
success-is (PidsNotCoded k) e = absurd (omega arith)
success-is (FillNotZero k) e = absurd (omega arith)
success-is (ExtendedNotCoded k) e = absurd (omega arith)
success-is ReservedTooHigh e = absurd (omega arith)
success-is SharesTooMany e = absurd (omega arith)
success-is SymbolTooHigh e = absurd (omega arith)
success-is (ScaleNotUsable k) e = absurd (omega arith)
success-is (MixedControl k) e = absurd (omega arith)
success-is NoFrameFits e = absurd (omega arith)
success-is SeveralFit e = absurd (omega arith)
success-is WrongBudget e = absurd (omega arith)
success-is WrongMark e = absurd (omega arith)
success-is WrongVersion e = absurd (omega arith)
success-is WrongEnd e = absurd (omega arith)
