-- What is shown of finder and locator of PX1 and PX2 in all six modes: in the older modes they answer as those of the older modes do; they undo each other; and in
-- every sender's run the cell holds the coded bit.
use Rattle.std.specs.Prelude.{ℕ, ◌+◌, ◌-◌, ◌*◌, ◌≤◌, ◌<◌, ◌≡◌, Ok}
use Rattle.bits.specs.Bits.{bit_at}
use Rattle.coding.specs.declared.Rate.TheVariants.{Half}
use Rattle.coding.specs.Channel.{channel}
use Rattle.runs.specs.declared.Extended.{Extended}
use Rattle.runs.specs.declared.State.{State}
use Rattle.runs.specs.MainChannels.{main_of, p1'_bits}
use Rattle.runs.specs.Lengths.{kind_of}
use Rattle.runs.specs.Chain as Chain
use Rattle.runs.specs.Lent.{frame_of, matrix_of, p1'_in}
use Rattle.runs.specs.Starting.{state_at}
use Rattle.runs.specs.Runs.{SenderRun, count, frame_at, matrices_at}
use Rattle.queries.specs.FinderPX as PX
use Rattle.queries.specs.FinderPX.{found_px, frame_coded}
use Rattle.queries.specs.Sheets.{channel_number}
use Rattle.locating.specs.LocatorPX.{at_cell, located_px}
use Rattle.finding_px.specs.declared.finder.FoundPxIn.TheVariants.{Coded, Fill, Second, DelayZero}
use Rattle.finding_px.specs.Second.{cell_of, coded_of, columns_of}
use Rattle.finding_px.specs.Finder.{as_in, found_px_in}
use Rattle.finding_px.specs.Locator.{located_px_in}

-- of a state of MP1, MP2, MP3 or MP11
pub record AsBefore (s : State) : Type 0 where
  pub finds : (channel pair row column : ℕ) → found_px_in s channel pair row column ≡ as_in (found_px s channel pair row column)
  pub locates : (channel frame bit : ℕ) → located_px_in s channel frame bit ≡ located_px s channel frame bit

-- of P3 or P4 in any mode; L1 frame t comes after the state `state_at mode z t`, where z is the number sent last
pub record BothWays (mode : ℕ) (e : Extended) : Type 0 where
  -- every coded bit of L1 frame t has a cell, at most two L1 frames later
  pub sent : (z t frame bit : ℕ) → z < 8 → frame < 8 → bit < frame_coded (kind_of mode e)
      → (later : ℕ) × (pair : ℕ) × (row : ℕ) × (column : ℕ)
      × (located_px_in (state_at mode z t) (channel_number e) frame bit ≡ Ok (at_cell later pair row column))
      × (later ≤ 2) × (pair < 8) × (row < 64) × (column < PX.columns_of (kind_of mode e))
  -- in that L1 frame the finder names the bit, as that many L1 frames earlier
  pub there : (z z' t frame bit later pair row column : ℕ) → z < 8 → z' < 8
      → located_px_in (state_at mode z t) (channel_number e) frame bit ≡ Ok (at_cell later pair row column)
      → found_px_in (state_at mode z' (t + later)) (channel_number e) pair row column ≡ Ok (Coded later frame bit)
  -- and the locator of that earlier L1 frame the cell
  pub back : (z z' t pair row column earlier frame bit : ℕ) → z < 8 → z' < 8
      → found_px_in (state_at mode z t) (channel_number e) pair row column ≡ Ok (Coded earlier frame bit)
      → (earlier ≤ t) × (located_px_in (state_at mode z' (t - earlier)) (channel_number e) frame bit ≡ Ok (at_cell earlier pair row column))

-- of P1' in MP5 and MP6: channel 6 of the locator, and PX2, channel 4, of the finder
pub record BothWaysSecond (mode : ℕ) : Type 0 where
  -- every coded bit of L1 frame t has a cell, three L1 frames later, in the matrix of its P1 frame
  pub sent : (z t frame bit : ℕ) → z < 8 → frame < 8 → bit < coded_of (main_of mode)
      → (row : ℕ) × (column : ℕ) × (located_px_in (state_at mode z t) 6 frame bit ≡ Ok (at_cell 3 frame row column)) × (row < 64) × (column < columns_of (main_of mode))
  pub there : (z z' t frame bit later pair row column : ℕ) → z < 8 → z' < 8
      → located_px_in (state_at mode z t) 6 frame bit ≡ Ok (at_cell later pair row column)
      → found_px_in (state_at mode z' (t + later)) 4 pair row column ≡ Ok (Second frame bit)
  -- and every cell from L1 frame 3 on has a coded bit, before that the delay's zeros
  pub named : (z t pair row column : ℕ) → z < 8 → 3 ≤ t → pair < 8 → row < 64 → column < columns_of (main_of mode)
      → (bit : ℕ) × (found_px_in (state_at mode z t) 4 pair row column ≡ Ok (Second pair bit)) × (bit < coded_of (main_of mode))
  pub zeros : (z t pair row column : ℕ) → z < 8 → t < 3 → pair < 8 → row < 64 → column < columns_of (main_of mode)
      → found_px_in (state_at mode z t) 4 pair row column ≡ Ok DelayZero
  pub back : (z z' t pair row column frame bit : ℕ) → z < 8 → z' < 8
      → found_px_in (state_at mode z t) 4 pair row column ≡ Ok (Second frame bit)
      → (3 ≤ t) × (located_px_in (state_at mode z' (t - 3)) 6 frame bit ≡ Ok (at_cell 3 pair row column))

-- L1 frame t of the run a, in any mode, whose sending was handed the state `state_at mode z t`: what the finder names stands in the cell
pub record Sheet (mode : ℕ) (a : SenderRun mode) (t : ℕ) : Type 0 where
  pub coded-cell : (e : Extended) (z pair row column earlier frame bit : ℕ) → z < 8
      → found_px_in (state_at mode z t) (channel_number e) pair row column ≡ Ok (Coded earlier frame bit)
      → (earlier ≤ t)
      × (bit_at (matrix_of mode (matrices_at mode a t) e) (PX.cell_of (kind_of mode e) pair row column)
      ≡ Chain.coded_of (kind_of mode e) (frame_of (frame_at mode a (t - earlier)) e) (frame * frame_coded (kind_of mode e) + bit))
  pub fill-cell : (e : Extended) (z pair row column : ℕ) → z < 8
      → found_px_in (state_at mode z t) (channel_number e) pair row column ≡ Ok Fill
      → bit_at (matrix_of mode (matrices_at mode a t) e) (PX.cell_of (kind_of mode e) pair row column) ≡ 0
  pub second-cell : (z pair row column frame bit : ℕ) → z < 8
      → found_px_in (state_at mode z t) 4 pair row column ≡ Ok (Second frame bit)
      → (3 ≤ t)
      × (bit_at (p1'_in mode (matrices_at mode a t)) (cell_of (main_of mode) pair row column)
      ≡ channel Half (p1'_bits (main_of mode)) (bit_at (frame_at mode a (t - 3)).p1) (frame * coded_of (main_of mode) + bit))
  pub delay-cell : (z pair row column : ℕ) → z < 8
      → found_px_in (state_at mode z t) 4 pair row column ≡ Ok DelayZero
      → bit_at (p1'_in mode (matrices_at mode a t)) (cell_of (main_of mode) pair row column) ≡ 0

-- and so where the locator says, if the L1 frame in which the bit goes has been sent
pub record LocatedSheet (mode : ℕ) (a : SenderRun mode) (t : ℕ) : Type 0 where
  pub coded-bit : (e : Extended) (z frame bit later pair row column : ℕ) → z < 8
      → located_px_in (state_at mode z t) (channel_number e) frame bit ≡ Ok (at_cell later pair row column)
      → t + later < count mode a
      → bit_at (matrix_of mode (matrices_at mode a (t + later)) e) (PX.cell_of (kind_of mode e) pair row column)
      ≡ Chain.coded_of (kind_of mode e) (frame_of (frame_at mode a t) e) (frame * frame_coded (kind_of mode e) + bit)
  pub second-bit : (z frame bit later pair row column : ℕ) → z < 8
      → located_px_in (state_at mode z t) 6 frame bit ≡ Ok (at_cell later pair row column)
      → t + later < count mode a
      → bit_at (p1'_in mode (matrices_at mode a (t + later))) (cell_of (main_of mode) pair row column)
      ≡ channel Half (p1'_bits (main_of mode)) (bit_at (frame_at mode a t).p1) (frame * coded_of (main_of mode) + bit)
