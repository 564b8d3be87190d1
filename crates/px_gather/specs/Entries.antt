-- The entries of a partition of the internal matrix, in the order in which they are written: the code finds a step's cell by its partition and
-- entry. Only the code needs this.
use Rattle.std.specs.Prelude.{◌≡◌, List, ℕ, ◌+◌, ◌-◌, ◌*◌, ◌/◌, ◌%◌, ◌<◌, get_or}
use Rattle.interleaving.specs.Matrix.{cell}
use Rattle.interleaving.specs.EquationsIV as IV
use Rattle.interleaving.specs.InverseIV.{missed}
use Rattle.interleaving.specs.PX.{partitions, runs, order, coded_bits, later}
use Rattle.interleaving.specs.FinderPX.{source}

-- 10.2.6.2 to 10.2.6.4: the cell of the entry n of the partition p
unfoldable pub entry : (kind p n : ℕ) → ℕ
entry kind p n =
    cell (partitions kind) 36 p
    (IV.block_at (partitions kind) 32 36 (runs kind) (order kind) p n)
    (IV.row_at (partitions kind) 32 36 (runs kind) (order kind) n)
    (IV.column_at (partitions kind) 32 36 (runs kind) (order kind) n)

-- a turn is 1152 entries, one for each row and column of a block: where the entry n of a turn stands in its block, from the partition's first cell
unfoldable pub spot : (kind n : ℕ) → ℕ
spot kind n = 11 * n % 1152 / 36 * (36 * partitions kind) + 11 * n % 1152 % 36

-- 10.2.6.1: the partition of the step u of a byte, and how far on its counter is; the tables of the eight steps
unfoldable pub part_of : (kind u : ℕ) → ℕ
part_of kind u = (u + 2 * (runs kind / 4)) % 8 / runs kind

unfoldable pub count_of : (kind u : ℕ) → ℕ
count_of kind u = (u + 2 * (runs kind / 4)) / 8 * runs kind + (u + 2 * (runs kind / 4)) % runs kind - missed (runs kind) (part_of kind u)

abbrev pub Parts : (kind : ℕ) → List ℕ → Type 0
Parts kind parts = (u : ℕ) → u < 8 → get_or parts u 0 ≡ part_of kind u

abbrev pub Counts : (kind : ℕ) → List ℕ → Type 0
Counts kind counts = (u : ℕ) → u < 8 → get_or counts u 0 ≡ count_of kind u

-- where the eight bits of the byte g of the first turn stand in an L1 frame's matrix and the two that follow; those of a later turn stand as many blocks on
abbrev pub Delays : (kind g : ℕ) → List ℕ → Type 0
Delays kind g delays = (u : ℕ) → u < 8 → get_or delays u 0 ≡ later kind 0 (8 * g + u)

-- the coded bits that the eight places of the byte g of the first block take
abbrev pub Origins : (kind g : ℕ) → List ℕ → Type 0
Origins kind g origins = (u : ℕ) → u < 8 → get_or origins u 0 ≡ source kind (8 * g + u) % coded_bits kind
