-- Documents 01 and 02, the causes that a sending and a reading meet first: 2, 9 and 3.
use Rattle.std.specs.Prelude.{Bool, not, [], ◌∷◌, ℕ, ltb}
use Rattle.std.proofs.Math.Option.{Option}
use Rattle.runs.specs.declared.Answer.{Answer}
use Rattle.runs.specs.declared.Answer.TheVariants.{StateNotValid, ReservedTooHigh, WrongLength}
use Rattle.runs.specs.declared.State.{State}
use Rattle.runs.specs.Causes.{at, judge, when}
use Rattle.runs.specs.Starting.{valid}

-- the first cause that applies, from whether the state is valid, the number handed in and the first wrong length
unfoldable pub first_cause : Bool → ℕ → Option ℕ → Answer
first_cause v reserved place =
    judge (when (not v) StateNotValid ∷ when (not (ltb reserved 8)) ReservedTooHigh ∷ at WrongLength place ∷ [])

-- a reading is handed no number, and 0 stands for it
abbrev pub admitted : State → ℕ → Option ℕ → Answer
admitted s reserved place = first_cause (valid s) reserved place
