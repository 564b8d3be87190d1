-- House matter: whose coded bit stands in a cell of PX1 or PX2 of the L1 frame that a state comes before, and how many L1 frames earlier it was sent.
-- PX1 and PX2 are eight matrices each, one for a block pair, of 64 rows (Tables 10-15 and 10-16). Why there is such a call: docs/DECISIONS.md D49.
use Rattle.std.specs.Prelude.{ℕ, ◌+◌, ◌*◌, ◌/◌, ◌%◌, Result, Ok, Err, cond, eqb, ltb}
use Rattle.interleaving.specs.FinderPX.{earlier, coded_bit}
use Rattle.runs.specs.declared.Answer.{Answer}
use Rattle.runs.specs.declared.Answer.TheVariants.{StateNotValid, WrongLength}
use Rattle.runs.specs.declared.State.{State}
use Rattle.runs.specs.declared.Extended.TheVariants.{P3, P4}
use Rattle.runs.specs.declared.Kind.{Kind}
use Rattle.runs.specs.declared.Kind.TheVariants.{Unused, Narrow, Wide}
use Rattle.runs.specs.Answers.{number_of, place_of}
use Rattle.runs.specs.Lengths.{kind_of, frame_bits, table_row}
use Rattle.runs.specs.Starting.{valid}
use Rattle.queries.specs.declared.finder_px.FoundPx.{FoundPx}
use Rattle.queries.specs.declared.finder_px.FoundPx.TheVariants.{Coded, Fill}

-- how a mode sends the channel of a number, 3 for P3 and 4 for P4: any other number is of no channel. The finder keeps to the older modes (document 02), so
-- that in MP5 it knows none; MP6 has neither (docs/DECISIONS.md D48)
unfoldable pub kind_of_number : (mode channel : ℕ) → Kind
kind_of_number mode channel = cond (eqb mode 5) Unused (cond (eqb channel 3) (kind_of mode P3) (cond (eqb channel 4) (kind_of mode P4) Unused))

-- the cells of a row
abbrev pub columns_of : Kind → ℕ
columns_of Unused = 0
columns_of Narrow = 72
columns_of Wide = 144

-- the cell, counted through the eight matrices
abbrev pub cell_of : Kind → (pair row column : ℕ) → ℕ
cell_of k pair row column = (pair * 64 + row) * columns_of k + column

-- the coded bits of a transfer frame, at the rate 1/2
abbrev pub frame_coded : Kind → ℕ
frame_coded k = 2 * frame_bits k

-- a bit coded before the run began is the zero fill; of any other, the transfer frame of the eight and the coded bit in it
unfoldable pub told : (k : Kind) (half age cell : ℕ) → FoundPx
told k half age cell =
    let n = earlier (table_row k) half cell in
    let j = coded_bit (table_row k) half cell in
    cond (ltb age n) Fill (Coded n (j / frame_coded k) (j % frame_coded k))

-- refused: a state that is not valid; a channel that the mode does not send at place 0, a block pair above 7 at 1, a row above 63 at 2, a column past
-- the row's end at 3
unfoldable pub found_px : State → (channel pair row column : ℕ) → Result FoundPx Answer
found_px s channel pair row column =
    let k = kind_of_number s.mode channel in
    cond (valid s)
    (cond (eqb (columns_of k) 0) (Err (WrongLength 0))
    (cond (ltb pair 8)
    (cond (ltb row 64)
    (cond (ltb column (columns_of k)) (Ok (told k s.half s.age (cell_of k pair row column))) (Err (WrongLength 3)))
    (Err (WrongLength 2)))
    (Err (WrongLength 1))))
    (Err StateNotValid)

-- the values for each case: number and place of the table of causes, what stands in the cell, how many L1 frames earlier, transfer frame and bit
pub data Content : Type 0 where
  none coded fill : Content

pub record Values : Type 0 where
  pub number : ℕ
  pub place : ℕ
  pub content : Content
  pub before : ℕ
  pub frame : ℕ
  pub bit : ℕ

abbrev pub values : Result FoundPx Answer → Values
values (Ok (Coded before frame bit)) = record { number = 0; place = 0; content = coded; before = before; frame = frame; bit = bit }
values (Ok Fill) = record { number = 0; place = 0; content = fill; before = 0; frame = 0; bit = 0 }
values (Err answer) = record { number = number_of answer; place = place_of answer; content = none; before = 0; frame = 0; bit = 0 }
