-- From what a call of `layer1` gave to what it leaves across the boundary. Assumes nothing.
use Prim.Native.Nat.{ℕ, ◌^◌, ◌<◌}
use mathlib.Core.Path.{◌≡◌, refl, sym, ap, subst, ◌∙◌}
use mathlib.Core.Bool.{cond}
use native.Mathlib.Decide.{ℕ_discrete}
use lib.Dec.{eqb}
use borrow.Author.Tests.{ne_eqb}
use Rattle.runs.specs.declared.Answer.{Answer}
use Rattle.runs.specs.declared.State.{State}
use Rattle.runs.specs.Answers.{number_of, on_success, place_of}
use Rattle.runs.specs.Lent.{Lent, Memory, Result}
use Rattle.runs.specs.Sending.{refused}
use Rattle.runs.specs.Reading.{read_answer, read_step, received, unnumbered}
use Rattle.runs.specs.Starting.{Started, next}
use Rattle.runs.proofs.Answered.{not-success, success-is}
use Rattle.calls.specs.declared.states.Outcome.{Outcome}
use Rattle.calls.specs.declared.states.ReadOutcome.{ReadOutcome}
use Rattle.calls.specs.Called.{gave, read_gave, start_gave}
use Rattle.words.specs.Words.{number_read, outcome_word}
use Rattle.exported_runs.specs.Left.{left, left_by, start_left, start_left_by}

module _ (o : Outcome) (m : Memory) (step : Started) (e : start_gave o m ≡ step) where
  pub start_small : place_of step.answer < 2 ^ 24 → place_of o.answer < 2 ^ 24
  start_small = subst (λ (g : Started). place_of g.answer < 2 ^ 24) (sym e)

  pub start_left-is : (r : ℕ) → r ≡ outcome_word o.answer o.state → start_left r m ≡ start_left_by step
  start_left-is r w = ap (λ (r : ℕ). start_left r m) w ∙ ap start_left_by e

module _ (o : Outcome) (m : Memory) (l : Lent) (step : Result) (e : gave o m l ≡ step) where
  pub small : place_of step.answer < 2 ^ 24 → place_of o.answer < 2 ^ 24
  small = subst (λ (g : Result). place_of g.answer < 2 ^ 24) (sym e)

  pub left_by-is : (r : ℕ) → r ≡ outcome_word o.answer o.state → left r m l ≡ left_by step
  left_by-is r w = ap (λ (r : ℕ). left r m l) w ∙ ap left_by e

-- ---- a reading: the number that it returned is in the word

-- what was lent, with another number
abbrev numbered : ℕ → Lent → Lent
numbered z l =
    let f = l.frames in
    record {
      frames = record { reserved = z; p1 = f.p1; pids = f.pids; p2 = f.p2; p3 = f.p3; p4 = f.p4 };
      signal = l.signal;
    }

-- the number returned is the state's on success, and 0 with any refusal
abbrev Numbered : Result → Type 0
Numbered g = g.lent.frames.reserved ≡ cond (eqb (number_of g.answer) 0) g.state.reserved 0

pub number-returned : (s : State) (m : Memory) (l : Lent) → Numbered (read_step s m l)
unfolding read_step received next on_success
number-returned s m l = go (ℕ_discrete (number_of (read_answer s m l)) 0)
  where
    gives : Answer → Result
    gives a = on_success a (received s m l) (refused s m (unnumbered l) a)

    go : Dec (number_of (read_answer s m l) ≡ 0) → Numbered (gives (read_answer s m l))
    go (yes e) = subst (λ (a : Answer). Numbered (gives a)) (sym (success-is (read_answer s m l) e)) refl
    go (no n) =
        subst Numbered (sym (not-success (read_answer s m l) (received s m l) (refused s m (unnumbered l) (read_answer s m l)) (λ q. n (ap number_of q))))
        (rw (ne_eqb (number_of (read_answer s m l)) 0 n))

module _ (o : ReadOutcome) (m : Memory) (l : Lent) (s : State) (m₀ : Memory) (l₀ : Lent) (e : read_gave o m l ≡ read_step s m₀ l₀) where
  pub read_small : place_of (read_step s m₀ l₀).answer < 2 ^ 24 → place_of o.answer < 2 ^ 24
  read_small = subst (λ (g : Result). place_of g.answer < 2 ^ 24) (sym e)

  pub left-read : (r : ℕ) → r ≡ outcome_word o.answer o.state → number_read r ≡ cond (eqb (number_of o.answer) 0) o.state.reserved 0
      → left r m (numbered (number_read r) l) ≡ left_by (read_step s m₀ l₀)
  left-read r w n =
      let is : number_read r ≡ l.frames.reserved = n ∙ sym (subst Numbered (sym e) (number-returned s m₀ l₀)) in
      (λ i. left (w i) m (numbered (is i) l)) ∙ ap left_by e
