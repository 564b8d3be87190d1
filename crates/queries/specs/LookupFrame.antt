-- S-8: what the control of an L1 frame is looked up as; refused, it gives mode and number 0.
use Rattle.std.specs.Prelude.{ℕ, cond, List, eqb, length, Result, Ok, Err}
use Rattle.blockset.specs.declared.FrameNumbers.{FrameNumbers}
use Rattle.blockset.specs.declared.SetFault.{SetFault}
use Rattle.blockset.specs.declared.SetFault.TheVariants.{Faulty, Unfit}
use Rattle.blockset.specs.LookupFrame.{looked_up_frame}
use Rattle.runs.specs.declared.Answer.{Answer}
use Rattle.runs.specs.declared.Answer.TheVariants.{WrongLength, WrongControl, MixedControl}
use Rattle.runs.specs.Answers.{number_of, place_of}

-- 4 with the lowest block that is faulty by itself, then 13 with the lowest that does not fit
abbrev pub answered : SetFault → Answer
answered (Faulty block) = WrongControl block
answered (Unfit block) = MixedControl block

abbrev pub told : Result FrameNumbers SetFault → Result FrameNumbers Answer
told (Ok numbers) = Ok numbers
told (Err fault) = Err (answered fault)

unfoldable pub lookup_frame_of : List ℕ → Result FrameNumbers Answer
lookup_frame_of control = cond (eqb (length control) 4096) (told (looked_up_frame control)) (Err (WrongLength 0))

-- the values for each case: number and place of the table of causes, mode and reserved number
pub record Values : Type 0 where
  pub number : ℕ
  pub place : ℕ
  pub mode : ℕ
  pub reserved : ℕ

abbrev pub values : Result FrameNumbers Answer → Values
values (Ok numbers) = record { number = 0; place = 0; mode = numbers.mode; reserved = numbers.reserved }
values (Err answer) = record { number = number_of answer; place = place_of answer; mode = 0; reserved = 0 }
