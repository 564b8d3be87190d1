-- What a working says of a sender's run: the cell into which a coded bit goes holds what its working comes to.
use Rattle.std.specs.Prelude.{ℕ, ◌+◌, ◌*◌, ◌%◌, ◌<◌, ◌≡◌, Ok}
use Rattle.bits.specs.Bits.{bit_at}
use Rattle.interleaving.specs.declared.Position.{Position}
use Rattle.interleaving.specs.PX.{step_of}
use Rattle.runs.specs.declared.Answer.TheVariants.{Success}
use Rattle.runs.specs.declared.Extended.{Extended}
use Rattle.runs.specs.Lengths.{kind_of, table_row}
use Rattle.runs.specs.Lent.{frame_of, matrix_of}
use Rattle.runs.specs.Starting.{state_at}
use Rattle.runs.specs.Runs.{SenderRun, count, frame_at, matrices_at}
use Rattle.queries.specs.FinderPX.{cell_of}
use Rattle.queries.specs.Sheets.{channel_number}
use Rattle.locating.specs.Locator.{at_cell, located}
use Rattle.locating.specs.LocatorPX.{at_cell as at_cell-px, located_px}
use Rattle.workings.specs.declared.Worked.{Worked}
use Rattle.workings.specs.Shown.{worked}

-- a working that is not refused, comes to this bit and is of a bit that goes to this cell
pub record ComesTo (bit cell : ℕ) (w : Worked) : Type 0 where
  pub success : w.answer ≡ Success
  pub comes-to : w.coded ≡ bit
  pub written-to : w.writing.cell ≡ cell

-- L1 frame t of the run a in MP1, MP2, MP3 or MP11, whose transfer frames are those meant by what was handed to its sending, and z the number sent before. A cell of
-- PX1 or PX2 is read by the step of its own number, counted through the L1 frames of both halves
pub record WorkedSheet (mode : ℕ) (a : SenderRun mode) (t : ℕ) : Type 0 where
  pub p1-bit : (z bit row column : ℕ) (position : Position) → z < 8 → located 1 0 bit ≡ Ok (at_cell position row column)
      → ComesTo (bit_at (matrices_at mode a t).pm (row * 720 + column)) (row * 720 + column) (worked (state_at mode z t) 1 (frame_at mode a t).p1 0 bit)
  pub pids-bit : (z frame bit row column : ℕ) (position : Position) → z < 8 → located 2 frame bit ≡ Ok (at_cell position row column)
      → ComesTo (bit_at (matrices_at mode a t).pm (row * 720 + column)) (row * 720 + column) (worked (state_at mode z t) 2 (frame_at mode a t).pids frame bit)
  pub coded-bit : (e : Extended) (z frame bit later pair row column : ℕ) → z < 8
      → located_px (state_at mode z t) (channel_number e) frame bit ≡ Ok (at_cell-px later pair row column)
      → t + later < count mode a
      → ComesTo (bit_at (matrix_of mode (matrices_at mode a (t + later)) e) (cell_of (kind_of mode e) pair row column))
      (step_of (table_row (kind_of mode e)) ((t + later) % 2) (cell_of (kind_of mode e) pair row column))
      (worked (state_at mode z t) (channel_number e) (frame_of (frame_at mode a t) e) frame bit)
