-- House matter: into which cell of PX1 or PX2 a coded bit of P3 or P4 goes, and how many L1 frames later than its own it is sent, in MP2, MP3 and MP11.
use Rattle.std.specs.Prelude.{ℕ, ◌+◌, ◌*◌, ◌/◌, ◌%◌, Result, Ok, Err, cond, eqb, ltb}
use Rattle.interleaving.specs.PX.{coded_bits, later}
use Rattle.runs.specs.declared.Answer.{Answer}
use Rattle.runs.specs.declared.Answer.TheVariants.{StateNotValid, WrongLength}
use Rattle.runs.specs.declared.State.{State}
use Rattle.runs.specs.declared.Kind.{Kind}
use Rattle.runs.specs.Answers.{number_of, place_of}
use Rattle.runs.specs.Lengths.{table_row}
use Rattle.runs.specs.Starting.{valid}
use Rattle.queries.specs.FinderPX.{kind_of_number, columns_of, frame_coded}
use Rattle.locating.specs.declared.locator_px.LocatedPx.{LocatedPx}

abbrev pub at_cell : (later pair row column : ℕ) → LocatedPx
at_cell later pair row column = record { later = later; pair = pair; row = row; column = column }

-- cell x of an L1 frame's matrices and of those that follow, laid end to end: how many L1 frames later, the block pair, the row of its matrix and the column
unfoldable pub standing : (k : Kind) (x : ℕ) → LocatedPx
standing k x =
    let n = coded_bits (table_row k) in
    let c = columns_of k in
    at_cell (x / n) (x % n / c / 64) (x % n / c % 64) (x % n % c)

-- of the L1 frame that the state comes before, the coded bit of the transfer frame. Refused: a state that is not valid; a channel that the mode does not
-- send at place 0, a transfer frame above 7 at 1, a bit past its end at 2
unfoldable pub located_px : State → (channel frame bit : ℕ) → Result LocatedPx Answer
located_px s channel frame bit =
    let k = kind_of_number s.mode channel in
    cond (valid s)
    (cond (eqb (columns_of k) 0) (Err (WrongLength 0))
    (cond (ltb frame 8)
    (cond (ltb bit (frame_coded k)) (Ok (standing k (later (table_row k) s.half (frame * frame_coded k + bit)))) (Err (WrongLength 2)))
    (Err (WrongLength 1))))
    (Err StateNotValid)

-- the values for each case: number and place of the table of causes, how many L1 frames later, block pair, row and column
pub record Values : Type 0 where
  pub number : ℕ
  pub place : ℕ
  pub after : ℕ
  pub pair : ℕ
  pub row : ℕ
  pub column : ℕ

abbrev pub values : Result LocatedPx Answer → Values
values (Ok cell) = record { number = 0; place = 0; after = cell.later; pair = cell.pair; row = cell.row; column = cell.column }
values (Err answer) = record { number = number_of answer; place = place_of answer; after = 0; pair = 0; row = 0; column = 0 }
