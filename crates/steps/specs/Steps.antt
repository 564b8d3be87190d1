-- What a step of a run's program leaves, from what the call on an L1 frame gave.
use Rattle.std.specs.Prelude.{Bool, List, ℕ, eqb}
use Rattle.runs.specs.declared.State.{State}
use Rattle.runs.specs.Answers.{number_of, on_success, place_of}
use Rattle.runs.specs.Lent.{Memory, Result}
use Rattle.messages.specs.Lines.{in_words}

-- the state and the memory afterwards, whether the L1 frame was sent or read, and the bytes: what is written for it, on standard output, or the lines
-- that are said
pub record Step : Type 0 where
  pub state : State
  pub memory : Memory
  pub done : Bool
  pub bytes : List ℕ

-- the parts of a step, gathered
abbrev pub step : State → Memory → Bool → List ℕ → Step
step s m done bytes = record { state = s; memory = m; done = done; bytes = bytes }

-- for L1 frame `frame` what is written of its result; where it is refused, the number and the place of the answer, and the L1 frame, and the cause in words
unfoldable pub step_of : (written : Result → List ℕ) (frame : ℕ) → Result → Step
step_of written frame g =
    step g.state g.memory (eqb (number_of g.answer) 0)
    (on_success g.answer (written g) (in_words (number_of g.answer) (place_of g.answer) frame))
