-- S-12: paths of the coder's register, whose start and end need not meet, and the start of a frame.
use Rattle.std.specs.Prelude.{◌≡◌, List, ℕ, ◌+◌, ◌≤◌}
use Rattle.bits.specs.Bits.{number}
use Rattle.coding.specs.Coder.{rate25, coded}
use Rattle.coding.specs.Channel.{Bits}
use Rattle.trellis.specs.Cells.{apart}

-- the start of a scrambled frame s: its last six bits, the last weighing 1
unfoldable pub start : (ℕ → ℕ) → ℕ
start s = number 6 (λ i. s (74 + i))

-- A path has 86 bits: the six that are in the register at the start, oldest first, and the 80 that enter it.
-- Its coded bits are those of the 80, by the coder of 9.3 over all 86 bits: the first six have the first 15, and the rest do not reach around the end.
unfoldable pub path_coded : (ℕ → ℕ) → ℕ → ℕ
path_coded x n = coded rate25 86 x (15 + n)

unfoldable pub path_distance : List ℕ → (ℕ → ℕ) → ℕ
path_distance cells x = apart cells (path_coded x) 200

-- the least distance over all paths, from any of the 64 starts to any end
pub record LeastOverPaths (cells : List ℕ) (least : ℕ) : Type 0 where
  pub path : ℕ → ℕ
  pub bits : Bits 86 path
  pub reached : path_distance cells path ≡ least
  pub under : (x : ℕ → ℕ) → Bits 86 x → least ≤ path_distance cells x
