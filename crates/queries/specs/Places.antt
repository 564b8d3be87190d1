-- Document 02, S-3: where a row and a column of PM stand, by block, row, partition and column. Refused as the cell finder is, with zeros
-- (docs/DECISIONS.md D51).
use Rattle.std.specs.Prelude.{ℕ, Result, Ok, Err, cond, ltb}
use Rattle.interleaving.specs.declared.Position.{Position}
use Rattle.interleaving.specs.Matrix.{position_at}
use Rattle.runs.specs.declared.Answer.{Answer}
use Rattle.runs.specs.declared.Answer.TheVariants.{WrongLength}
use Rattle.runs.specs.Answers.{number_of, place_of}

-- a row above 511 is refused at place 0, a column above 719 at place 1
unfoldable pub placed : (row column : ℕ) → Result Position Answer
placed row column = cond (ltb row 512) (cond (ltb column 720) (Ok (position_at 36 row column)) (Err (WrongLength 1))) (Err (WrongLength 0))

-- number and place of the table of causes, and the position
pub record Values : Type 0 where
  pub number : ℕ
  pub place : ℕ
  pub position : Position

abbrev pub values : Result Position Answer → Values
values (Ok position) = record { number = 0; place = 0; position = position }
values (Err answer) =
    record { number = number_of answer; place = place_of answer; position = record { block = 0; row = 0; partition = 0; column = 0 } }
