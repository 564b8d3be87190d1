-- Where the code begins: the cells of the first 320 P1 bits, which have the blocks and partitions of those of any k, and the first cell of PIDS in a block
-- and of a k. Only the code needs this.
use Rattle.std.specs.Prelude.{◌≡◌, List, ℕ, ◌+◌, ◌/◌, ◌%◌, ◌<◌, get_or}
use Rattle.interleaving.specs.Matrix.{cell_of}
use Rattle.interleaving.specs.InverseI.{spot}
use Rattle.interleaving.specs.PM.{p1_place}

-- the cells of the first 320 P1 bits, whose k is 0
abbrev pub FirstCells : List ℕ → Type 0
FirstCells cells = (t : ℕ) → t < 320 → get_or cells t 0 ≡ p1_place t

-- the cell in the first partition of the block and the k of the PIDS bits from 20 m on
unfoldable pub pids_start : ℕ → ℕ
pids_start m = cell_of 20 36 (spot 36 0 (m / 10) (m % 10 + 1142))
