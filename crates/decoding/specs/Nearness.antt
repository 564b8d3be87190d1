-- S-12: the nearest frame among those whose start is tried, and the margin (docs/DECISIONS.md D58 to D60).
use Rattle.std.specs.Prelude.{◌≡◌, List, ℕ, ◌+◌, ◌-◌, ◌*◌, ◌^◌, ◌<◌, ◌≤◌}
use Rattle.bits.specs.Bits.{number}
use Rattle.trellis.specs.Cells.{Frame, scrambled_of, distance}
use Rattle.trellis.specs.Paths.{start, LeastOverPaths}

-- what is to be least: the distance, then the start, of which there are 64, then the scrambled frame as a number of 80 bits, first bit heaviest
unfoldable pub rank : List ℕ → (ℕ → ℕ) → ℕ
rank cells s = (distance cells s * 64 + start s) * 2 ^ 80 + number 80 s

-- the nearest frame among those whose start is below the budget
pub record Nearest (cells : List ℕ) (budget : ℕ) (frame : List ℕ) : Type 0 where
  pub shape : Frame frame
  pub tried : start (scrambled_of frame) < budget
  pub first : (other : List ℕ) → Frame other → start (scrambled_of other) < budget
      → rank cells (scrambled_of frame) ≤ rank cells (scrambled_of other)

-- the margin: 0 where all 64 starts are tried, else the distance less the least over all paths
pub record Margin (cells : List ℕ) (budget distance margin : ℕ) : Type 0 where
  pub all : budget ≡ 64 → margin ≡ 0
  pub some : budget < 64 → (least : ℕ) × LeastOverPaths cells least × (margin ≡ distance - least)
