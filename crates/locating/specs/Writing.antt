-- 10.2.3, 10.2.4 and 10.2.6 for one coded bit: the number i that it has there, k, the position in the matrix and its cell.
use Rattle.std.specs.Prelude.{ℕ}
use Rattle.interleaving.specs.declared.Position.{Position}
use Rattle.interleaving.specs.EquationsI as I
use Rattle.interleaving.specs.EquationsII as II
use Rattle.interleaving.specs.EquationsIV as IV
use Rattle.interleaving.specs.PM.{v, p1_position, pids_position, p1_place, pids_place}
use Rattle.interleaving.specs.PX.{partitions, runs, order, place}
use Rattle.locating.specs.declared.writing.Writing.{Writing}

-- 10.2.3, of P1 bit i; 10.2.4, of PIDS bit i of the sixteen frames
unfoldable pub p1_writing : ℕ → Writing
p1_writing i = record { step = i; k = I.k_of 20 16 36 1 v i; position = p1_position i; cell = p1_place i }

unfoldable pub pids_writing : ℕ → Writing
pids_writing i = record { step = i; k = II.k_of 20 16 36 200 365440 v i; position = pids_position i; cell = pids_place i }

-- 10.2.6.1: the partition of step i, and the counter of the partition assignment
unfoldable pub partition_of : (kind i : ℕ) → ℕ
partition_of kind i = IV.partition (partitions kind) 32 36 (runs kind) (order kind) i

unfoldable pub counter_of : (kind i : ℕ) → ℕ
counter_of kind i = IV.pt (partitions kind) 32 36 (runs kind) (order kind) i

-- 10.2.6.2 to 10.2.6.4, with the counter for k: the position in the internal matrix. Each step reads the cell of its own number (10.2.2.2)
unfoldable pub px_position : (kind i : ℕ) → Position
px_position kind i =
    record {
      block = IV.block_at (partitions kind) 32 36 (runs kind) (order kind) (partition_of kind i) (counter_of kind i);
      row = IV.row_at (partitions kind) 32 36 (runs kind) (order kind) (counter_of kind i);
      partition = partition_of kind i;
      column = IV.column_at (partitions kind) 32 36 (runs kind) (order kind) (counter_of kind i);
    }

unfoldable pub px_writing : (kind i : ℕ) → Writing
px_writing kind i = record { step = i; k = counter_of kind i; position = px_position kind i; cell = place kind i }
