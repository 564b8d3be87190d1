-- A step, from what the call gave: it was done, or it was refused. Assumes nothing.
use mathlib.Core.Path.{◌≡◌, sym, ap, ◌∙◌}
use mathlib.Core.Bool.{true, false}
use mathlib.Core.List.{List}
use Prim.Native.Nat.{ℕ}
use borrow.Author.Tests.{eq-eqb, ne_eqb}
use Rattle.runs.specs.declared.Answer.{Answer}
use Rattle.runs.specs.declared.Answer.TheVariants.{Success}
use Rattle.runs.specs.Answers.{number_of, on_success, place_of}
use Rattle.runs.specs.Lent.{Result}
use Rattle.runs.proofs.Answered.{not-success, success-is}
use Rattle.messages.specs.Lines.{in_words}
use Rattle.steps.specs.Steps.{step, step_of}

on-success : {A : Type 0} (a : Answer) (done refused : A) → a ≡ Success → on_success a done refused ≡ done
unfolding on_success
on-success a done refused e = rw e

module _ (written : Result → List ℕ) (frame : ℕ) where
  done-is : (g : Result) (text : List ℕ) → number_of g.answer ≡ 0 → text ≡ written g → step g.state g.memory true text ≡ step_of written frame g
  unfolding step_of
  done-is g text z e =
      λ i.
      step g.state g.memory (sym (eq-eqb (number_of g.answer) 0 z) i)
      ((e ∙ sym (on-success g.answer (written g) (in_words (number_of g.answer) (place_of g.answer) frame) (success-is g.answer z))) i)

  pub was-done : (g h : Result) (text : List ℕ) → g ≡ h → number_of g.answer ≡ 0 → text ≡ written g
      → step g.state g.memory true text ≡ step_of written frame h
  was-done g h text same z e = done-is g text z e ∙ ap (step_of written frame) same

  refused-is : (g : Result) (text : List ℕ) → (number_of g.answer ≡ 0 → ⊥) → text ≡ in_words (number_of g.answer) (place_of g.answer) frame
      → step g.state g.memory false text ≡ step_of written frame g
  unfolding step_of
  refused-is g text ne e =
      λ i.
      step g.state g.memory (sym (ne_eqb (number_of g.answer) 0 ne) i)
      ((e ∙ sym (not-success g.answer (written g) (in_words (number_of g.answer) (place_of g.answer) frame) (λ z. ne (ap number_of z)))) i)

  pub was-refused : (g h : Result) (text : List ℕ) → g ≡ h → (number_of g.answer ≡ 0 → ⊥) → text ≡ in_words (number_of g.answer) (place_of g.answer) frame
      → step g.state g.memory false text ≡ step_of written frame h
  was-refused g h text same ne e = refused-is g text ne e ∙ ap (step_of written frame) same
