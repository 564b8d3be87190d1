-- Document 01 with S-2: what a control block alone is looked up as; refused, it gives mode, count and number 0.
use Rattle.std.specs.Prelude.{ℕ, cond, List, eqb, length, Option, Result, Ok, Err, ok_or}
use Rattle.control.specs.declared.BlockNumbers.{BlockNumbers}
use Rattle.control.specs.Lookup.{looked_up}
use Rattle.runs.specs.declared.Answer.{Answer}
use Rattle.runs.specs.declared.Answer.TheVariants.{WrongLength, WrongControl}
use Rattle.runs.specs.Answers.{number_of, place_of}

abbrev pub told : Option BlockNumbers → Result BlockNumbers Answer
told said = ok_or said (WrongControl 0)

unfoldable pub lookup_of : List ℕ → Result BlockNumbers Answer
lookup_of block = cond (eqb (length block) 256) (told (looked_up block)) (Err (WrongLength 0))

-- the values for each case: number and place of the table of causes, mode, count and reserved number
pub record Values : Type 0 where
  pub number : ℕ
  pub place : ℕ
  pub mode : ℕ
  pub count : ℕ
  pub reserved : ℕ

abbrev pub values : Result BlockNumbers Answer → Values
values (Ok block) = record { number = 0; place = 0; mode = block.mode; count = block.count; reserved = block.reserved }
values (Err answer) = record { number = number_of answer; place = place_of answer; mode = 0; count = 0; reserved = 0 }
