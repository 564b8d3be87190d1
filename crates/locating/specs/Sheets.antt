-- What a sheet says of a sender's run, asked from the bit: the cell that a locator names holds that coded bit of the frame sent, in the L1 frame that it names.
use Rattle.std.specs.Prelude.{ℕ, ◌+◌, ◌*◌, ◌<◌, ◌≡◌, Ok}
use Rattle.bits.specs.Bits.{bit_at}
use Rattle.coding.specs.declared.Rate.TheVariants.{TwoFifths}
use Rattle.coding.specs.Channel.{channel}
use Rattle.interleaving.specs.declared.Position.{Position}
use Rattle.runs.specs.declared.Extended.{Extended}
use Rattle.runs.specs.Lengths.{kind_of}
use Rattle.runs.specs.Chain.{coded_of}
use Rattle.runs.specs.Lent.{frame_of, matrix_of}
use Rattle.runs.specs.Starting.{state_at}
use Rattle.runs.specs.Runs.{SenderRun, count, frame_at, matrices_at}
use Rattle.queries.specs.FinderPX.{cell_of, frame_coded}
use Rattle.queries.specs.Sheets.{channel_number}
use Rattle.locating.specs.Locator.{at_cell, located}
use Rattle.locating.specs.LocatorPX.{at_cell as at_cell-px, located_px}

-- L1 frame t of the run a in MP1, MP2, MP3 or MP11, whose sending was handed the state `state_at mode z t`: z is the number sent last, and makes no difference.
-- A bit of P3 or P4 stands in its cell if the L1 frame in which it goes has been sent
pub record LocatedSheet (mode : ℕ) (a : SenderRun mode) (t : ℕ) : Type 0 where
  pub p1-bit : (bit row column : ℕ) (position : Position) → located 1 0 bit ≡ Ok (at_cell position row column)
      → bit_at (matrices_at mode a t).pm (row * 720 + column) ≡ channel TwoFifths 146176 (bit_at (frame_at mode a t).p1) bit
  pub pids-bit : (frame bit row column : ℕ) (position : Position) → located 2 frame bit ≡ Ok (at_cell position row column)
      → bit_at (matrices_at mode a t).pm (row * 720 + column) ≡ channel TwoFifths 80 (bit_at (frame_at mode a t).pids) (frame * 200 + bit)
  pub coded-bit : (e : Extended) (z frame bit later pair row column : ℕ) → z < 8
      → located_px (state_at mode z t) (channel_number e) frame bit ≡ Ok (at_cell-px later pair row column)
      → t + later < count mode a
      → bit_at (matrix_of mode (matrices_at mode a (t + later)) e) (cell_of (kind_of mode e) pair row column)
      ≡ coded_of (kind_of mode e) (frame_of (frame_at mode a t) e) (frame * frame_coded (kind_of mode e) + bit)
