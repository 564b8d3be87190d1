-- What is shown of finder and locator in all six modes: in the older modes they answer as document 01's finder and its locator do; they undo each other; and in
-- every sender's run the cell holds the coded bit.
use Rattle.std.specs.Prelude.{ℕ, ◌+◌, ◌*◌, ◌<◌, ◌≡◌, Result, Ok, Err}
use Rattle.bits.specs.Bits.{bit_at}
use Rattle.coding.specs.declared.Rate.TheVariants.{TwoFifths}
use Rattle.coding.specs.Channel.{channel}
use Rattle.interleaving.specs.Matrix.{position_at}
use Rattle.runs.specs.declared.Answer.{Answer}
use Rattle.runs.specs.MainChannels.{main_of, p1_bits, p1_frames, p2_bits}
use Rattle.runs.specs.Runs.{SenderRun, frame_at, matrices_at}
use Rattle.queries.specs.declared.finder.Found.{Found}
use Rattle.queries.specs.declared.finder.Found.TheVariants as finder
use Rattle.queries.specs.Finder.{found}
use Rattle.locating.specs.declared.locator.Located.{Located}
use Rattle.locating.specs.Locator.{at_cell, located}
use Rattle.finding.specs.declared.finder.Owner.{Owner}
use Rattle.finding.specs.declared.finder.Owner.TheVariants.{P1, P2, Pids}
use Rattle.finding.specs.VectorU.{frame_coded, p2_coded}
use Rattle.finding.specs.Finder.{found_in}
use Rattle.finding.specs.Locator.{located_in}

-- document 01's finder, with the number of P1's one transfer frame
abbrev pub as_owner : Result Found Answer → Result Owner Answer
as_owner (Ok (finder.P1 bit)) = Ok (P1 0 bit)
as_owner (Ok (finder.Pids frame bit)) = Ok (Pids frame bit)
as_owner (Err answer) = Err answer

pub record AsBefore (mode : ℕ) : Type 0 where
  pub finds : (row column : ℕ) → found_in mode row column ≡ as_owner (found row column)
  pub locates : (channel frame bit : ℕ) → channel < 5 → located_in mode channel frame bit ≡ located channel frame bit

-- what the finder says of the cell that a locator named, and the locator of the bit that a finder named
abbrev pub found_again : (mode : ℕ) → Result Located Answer → Result Owner Answer
found_again mode (Ok cell) = found_in mode cell.row cell.column
found_again mode (Err answer) = Err answer

abbrev pub located_again : (mode : ℕ) → Result Owner Answer → Result Located Answer
located_again mode (Ok (P1 frame bit)) = located_in mode 1 frame bit
located_again mode (Ok (P2 bit)) = located_in mode 5 0 bit
located_again mode (Ok (Pids frame bit)) = located_in mode 2 frame bit
located_again mode (Err answer) = Err answer

pub record BothWays (mode : ℕ) : Type 0 where
  pub p1-there : (frame bit : ℕ) → frame < p1_frames (main_of mode) → bit < frame_coded (main_of mode)
      → found_again mode (located_in mode 1 frame bit) ≡ Ok (P1 frame bit)
  pub p2-there : (bit : ℕ) → bit < p2_coded (main_of mode) → found_again mode (located_in mode 5 0 bit) ≡ Ok (P2 bit)
  pub pids-there : (frame bit : ℕ) → frame < 16 → bit < 200 → found_again mode (located_in mode 2 frame bit) ≡ Ok (Pids frame bit)
  pub back : (row column : ℕ) → row < 512 → column < 720 → located_again mode (found_in mode row column) ≡ Ok (at_cell (position_at 36 row column) row column)

-- L1 frame t of the run a, in any mode: what the finder names stands in the cell
pub record Sheet (mode : ℕ) (a : SenderRun mode) (t : ℕ) : Type 0 where
  pub p1-cell : (row column frame bit : ℕ) → found_in mode row column ≡ Ok (P1 frame bit)
      → bit_at (matrices_at mode a t).pm (row * 720 + column)
      ≡ channel TwoFifths (p1_bits (main_of mode)) (bit_at (frame_at mode a t).p1) (frame * frame_coded (main_of mode) + bit)
  pub p2-cell : (row column bit : ℕ) → found_in mode row column ≡ Ok (P2 bit)
      → bit_at (matrices_at mode a t).pm (row * 720 + column) ≡ channel TwoFifths (p2_bits (main_of mode)) (bit_at (frame_at mode a t).p2) bit
  pub pids-cell : (row column frame bit : ℕ) → found_in mode row column ≡ Ok (Pids frame bit)
      → bit_at (matrices_at mode a t).pm (row * 720 + column) ≡ channel TwoFifths 80 (bit_at (frame_at mode a t).pids) (frame * 200 + bit)
