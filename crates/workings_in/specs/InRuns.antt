-- What is shown of a working in all six modes: in the older modes it is as before; it explains its coded bit; and in every sender's run the cell of the bit
-- holds what the working comes to.
use Rattle.std.specs.Prelude.{ℕ, ◌+◌, ◌-◌, ◌*◌, ◌%◌, ◌≤◌, ◌<◌, ◌≡◌, List, Ok}
use Rattle.bits.specs.Bits.{bit_at}
use Rattle.interleaving.specs.declared.Position.{Position}
use Rattle.interleaving.specs.PX.{step_of}
use Rattle.runs.specs.declared.Extended.{Extended}
use Rattle.runs.specs.declared.State.{State}
use Rattle.runs.specs.MainChannels.{main_of}
use Rattle.runs.specs.Lengths.{kind_of, table_row}
use Rattle.runs.specs.Lent.{frame_of, matrix_of, p1'_in}
use Rattle.runs.specs.Starting.{state_at}
use Rattle.runs.specs.Runs.{SenderRun, count, frame_at, matrices_at}
use Rattle.queries.specs.FinderPX as PX
use Rattle.queries.specs.Sheets.{channel_number}
use Rattle.locating.specs.Locator.{at_cell}
use Rattle.locating.specs.LocatorPX.{at_cell as at_cell-px}
use Rattle.finding.specs.Locator.{located_in}
use Rattle.finding_px.specs.declared.finder.FoundPxIn.TheVariants.{Second}
use Rattle.finding_px.specs.Second.{cell_of}
use Rattle.finding_px.specs.Finder.{as_older, found_px_in}
use Rattle.finding_px.specs.Locator.{located_px_in}
use Rattle.workings.specs.Shown.{rate_of, bits_of, meant, worked}
use Rattle.workings.specs.Explained.{Explains}
use Rattle.workings.specs.Sheets.{ComesTo}
use Rattle.workings_in.specs.Shown.{rate_in, bits_in, worked_in}

-- of a state of MP1, MP2, MP3 or MP11
pub record AsBefore (s : State) : Type 0 where
  pub works : (channel : ℕ) (frames : List ℕ) (frame bit : ℕ) → worked_in s channel frames frame bit ≡ worked s channel frames frame bit

-- a working that is not refused explains its coded bit, of the mode's own channels and of those that it has as an older mode
pub record Explained (s : State) (channel : ℕ) (frames : List ℕ) (frame bit : ℕ) : Type 0 where
  pub own : (bits_in (main_of s.mode) channel ≡ 0 → ⊥)
      → Explains (rate_in channel) (bits_in (main_of s.mode) channel) (bit_at frames) frame bit (worked_in s channel frames frame bit)
  pub as-older : bits_in (main_of s.mode) channel ≡ 0
      → let mode = (as_older (main_of s.mode) s).mode in
      Explains (rate_of channel) (bits_of mode channel) (bit_at (meant mode channel frames)) frame bit (worked_in s channel frames frame bit)

-- L1 frame t of the run a, in any mode, whose transfer frames are those meant by what was handed to its sending, and z the number sent before
pub record WorkedSheet (mode : ℕ) (a : SenderRun mode) (t : ℕ) : Type 0 where
  pub p1-bit : (z frame bit row column : ℕ) (position : Position) → z < 8 → located_in mode 1 frame bit ≡ Ok (at_cell position row column)
      → ComesTo (bit_at (matrices_at mode a t).pm (row * 720 + column)) (row * 720 + column) (worked_in (state_at mode z t) 1 (frame_at mode a t).p1 frame bit)
  pub p2-bit : (z frame bit row column : ℕ) (position : Position) → z < 8 → located_in mode 5 frame bit ≡ Ok (at_cell position row column)
      → ComesTo (bit_at (matrices_at mode a t).pm (row * 720 + column)) (row * 720 + column) (worked_in (state_at mode z t) 5 (frame_at mode a t).p2 frame bit)
  pub pids-bit : (z frame bit row column : ℕ) (position : Position) → z < 8 → located_in mode 2 frame bit ≡ Ok (at_cell position row column)
      → ComesTo (bit_at (matrices_at mode a t).pm (row * 720 + column)) (row * 720 + column) (worked_in (state_at mode z t) 2 (frame_at mode a t).pids frame bit)
  -- a cell of P3 or P4 is read by the step of its own number, counted through the L1 frames of both halves
  pub coded-bit : (e : Extended) (z frame bit later pair row column : ℕ) → z < 8
      → located_px_in (state_at mode z t) (channel_number e) frame bit ≡ Ok (at_cell-px later pair row column)
      → t + later < count mode a
      → ComesTo (bit_at (matrix_of mode (matrices_at mode a (t + later)) e) (PX.cell_of (kind_of mode e) pair row column))
      (step_of (table_row (kind_of mode e)) ((t + later) % 2) (PX.cell_of (kind_of mode e) pair row column))
      (worked_in (state_at mode z t) (channel_number e) (frame_of (frame_at mode a t) e) frame bit)
  -- P1' of the P1 frames of L1 frame t, in the L1 frame that the locator names
  pub second-bit : (z frame bit later pair row column : ℕ) → z < 8
      → located_px_in (state_at mode z t) 6 frame bit ≡ Ok (at_cell-px later pair row column)
      → t + later < count mode a
      → ComesTo (bit_at (p1'_in mode (matrices_at mode a (t + later))) (cell_of (main_of mode) pair row column)) (cell_of (main_of mode) pair row column)
      (worked_in (state_at mode z t) 6 (frame_at mode a t).p1 frame bit)
  -- and a cell of PX2 of L1 frame t: from the P1 frames of the L1 frame three earlier
  pub second-cell : (z z' pair row column frame bit : ℕ) → z < 8 → z' < 8
      → found_px_in (state_at mode z t) 4 pair row column ≡ Ok (Second frame bit)
      → (3 ≤ t)
      × ComesTo (bit_at (p1'_in mode (matrices_at mode a t)) (cell_of (main_of mode) pair row column)) (cell_of (main_of mode) pair row column)
      (worked_in (state_at mode z' (t - 3)) 6 (frame_at mode a (t - 3)).p1 frame bit)
