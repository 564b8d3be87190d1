-- What is shown of finders and locators: they undo each other.
use Rattle.std.specs.Prelude.{ℕ, ◌+◌, ◌-◌, ◌≤◌, ◌<◌, ◌≡◌, Result, Ok, Err}
use Rattle.interleaving.specs.Matrix.{position_at}
use Rattle.runs.specs.declared.Answer.{Answer}
use Rattle.runs.specs.declared.Extended.{Extended}
use Rattle.runs.specs.Lengths.{kind_of}
use Rattle.runs.specs.Starting.{state_at}
use Rattle.queries.specs.declared.finder.Found.{Found}
use Rattle.queries.specs.declared.finder.Found.TheVariants.{P1, Pids}
use Rattle.queries.specs.declared.finder_px.FoundPx.TheVariants.{Coded, Fill}
use Rattle.queries.specs.Finder.{found}
use Rattle.queries.specs.FinderPX.{found_px, columns_of, frame_coded}
use Rattle.queries.specs.Sheets.{channel_number}
use Rattle.locating.specs.declared.locator.Located.{Located}
use Rattle.locating.specs.Locator.{at_cell, located}
use Rattle.locating.specs.LocatorPX.{at_cell as at_cell-px, located_px}

-- ---- PM

-- what the finder says of the cell that a locator named, and the locator of the bit that a finder named
abbrev pub found_again : Result Located Answer → Result Found Answer
found_again (Ok cell) = found cell.row cell.column
found_again (Err answer) = Err answer

abbrev pub located_again : Result Found Answer → Result Located Answer
located_again (Ok (P1 bit)) = located 1 0 bit
located_again (Ok (Pids frame bit)) = located 2 frame bit
located_again (Err answer) = Err answer

pub record BothWays : Type 0 where
  -- every coded bit, and every cell
  pub p1-there : (bit : ℕ) → bit < 365440 → found_again (located 1 0 bit) ≡ Ok (P1 bit)
  pub pids-there : (frame bit : ℕ) → frame < 16 → bit < 200 → found_again (located 2 frame bit) ≡ Ok (Pids frame bit)
  pub back : (row column : ℕ) → row < 512 → column < 720 → located_again (found row column) ≡ Ok (at_cell (position_at 36 row column) row column)

-- ---- PX1 and PX2 in a mode: L1 frame t comes after the state `state_at mode z t`, where z is the number sent last

pub record BothWaysPX (mode : ℕ) (e : Extended) : Type 0 where
  -- every coded bit of L1 frame t has a cell, at most two L1 frames later
  pub sent : (z t frame bit : ℕ) → z < 8 → frame < 8 → bit < frame_coded (kind_of mode e)
      → (later : ℕ) × (pair : ℕ) × (row : ℕ) × (column : ℕ)
      × (located_px (state_at mode z t) (channel_number e) frame bit ≡ Ok (at_cell-px later pair row column))
      × (later ≤ 2) × (pair < 8) × (row < 64) × (column < columns_of (kind_of mode e))
  -- in that L1 frame the finder names the bit, as that many L1 frames earlier
  pub there : (z z' t frame bit later pair row column : ℕ) → z < 8 → z' < 8
      → located_px (state_at mode z t) (channel_number e) frame bit ≡ Ok (at_cell-px later pair row column)
      → found_px (state_at mode z' (t + later)) (channel_number e) pair row column ≡ Ok (Coded later frame bit)
  -- and the locator of that earlier L1 frame the cell
  pub back : (z z' t pair row column earlier frame bit : ℕ) → z < 8 → z' < 8
      → found_px (state_at mode z t) (channel_number e) pair row column ≡ Ok (Coded earlier frame bit)
      → (earlier ≤ t) × (located_px (state_at mode z' (t - earlier)) (channel_number e) frame bit ≡ Ok (at_cell-px earlier pair row column))
  -- no bit goes where the finder says fill
  pub no-bit : (z z' t later pair row column frame bit : ℕ) → z < 8 → z' < 8
      → found_px (state_at mode z (t + later)) (channel_number e) pair row column ≡ Ok Fill
      → located_px (state_at mode z' t) (channel_number e) frame bit ≡ Ok (at_cell-px later pair row column) → ⊥
