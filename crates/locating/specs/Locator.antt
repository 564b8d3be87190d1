-- House matter: into which cell of PM a coded bit of P1 or PIDS goes, in MP1, MP2, MP3 and MP11. Refused, the locator gives zeros.
use Rattle.std.specs.Prelude.{ℕ, ◌+◌, ◌*◌, Result, Ok, Err, cond, eqb, ltb}
use Rattle.interleaving.specs.declared.Position.{Position}
use Rattle.interleaving.specs.Matrix.{matrix_row, matrix_column}
use Rattle.interleaving.specs.PM.{p1_position, pids_position}
use Rattle.runs.specs.declared.Answer.{Answer}
use Rattle.runs.specs.declared.Answer.TheVariants.{WrongLength}
use Rattle.runs.specs.Answers.{number_of, place_of}
use Rattle.locating.specs.declared.locator.Located.{Located}

abbrev pub at_cell : Position → (row column : ℕ) → Located
at_cell position row column = record { position = position; row = row; column = column }

-- a position, with document 01's row and column
unfoldable pub standing : Position → Located
standing p = at_cell p (matrix_row p) (matrix_column 36 p)

-- P1 has one transfer frame of 365,440 coded bits in an L1 frame, PIDS sixteen of 200. Refused: a transfer frame that is none of them at place 1, a bit past
-- its end at 2
unfoldable pub in_p1 : (frame bit : ℕ) → Result Located Answer
in_p1 frame bit = cond (ltb frame 1) (cond (ltb bit 365440) (Ok (standing (p1_position bit))) (Err (WrongLength 2))) (Err (WrongLength 1))

unfoldable pub in_pids : (frame bit : ℕ) → Result Located Answer
in_pids frame bit = cond (ltb frame 16) (cond (ltb bit 200) (Ok (standing (pids_position (frame * 200 + bit)))) (Err (WrongLength 2))) (Err (WrongLength 1))

-- channel 1 is P1 and channel 2 PIDS; any other is refused at place 0
unfoldable pub located : (channel frame bit : ℕ) → Result Located Answer
located channel frame bit = cond (eqb channel 1) (in_p1 frame bit) (cond (eqb channel 2) (in_pids frame bit) (Err (WrongLength 0)))

-- the values for each case: number and place of the table of causes, position, matrix row and column
pub record Values : Type 0 where
  pub number : ℕ
  pub place : ℕ
  pub position : Position
  pub row : ℕ
  pub column : ℕ

abbrev pub values : Result Located Answer → Values
values (Ok cell) = record { number = 0; place = 0; position = cell.position; row = cell.row; column = cell.column }
values (Err answer) =
    record {
      number = number_of answer;
      place = place_of answer;
      position = record { block = 0; row = 0; partition = 0; column = 0 };
      row = 0;
      column = 0;
    }
