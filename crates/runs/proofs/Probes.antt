-- The definitions give the starred probe points: computed, with Interleaver IV's counter in closed form. Assumes nothing.
use mathlib.Core.Path.{◌≡◌, refl, sym, ap, subst₂, fun_ext}
use Prim.Native.Nat.{ℕ, ◌+◌, ◌*◌, ◌/◌, ◌%◌}
use native.Mathlib.Omega.{arith}
use Rattle.bits.specs.Bits.{number}
use Rattle.coding.specs.Coder.{coded, output, back}
use Rattle.interleaving.specs.Matrix.{matrix_row, matrix_column, position_at, cell_of, position_of, cell, partition_of, block_of, row_of, column_of}
use Rattle.interleaving.specs.EquationsI as I
use Rattle.interleaving.specs.EquationsII as II
use Rattle.interleaving.specs.EquationsIV as IV
use Rattle.interleaving.specs.InverseIV.{missed}
use Rattle.interleaving.specs.PM.{v, p1_position, pids_position}
use Rattle.interleaving.specs.PX.{v4, partitions, runs, order, place}
use Rattle.interleaving.proofs.Counter.{pt-is}
use Rattle.interleaving.proofs.PXKinds.{perm4}
use Rattle.control.specs.Control.{sequence, field, sum, parity, rsid, assembled, stored, encoded}
use Rattle.runs.specs.Probes.{Hold, points_by, points}

-- step i's counter in closed form, and its cell
counter_by : ℕ → ℕ
counter_by i = (i + 0) / 8 * 2 + (i + 0) % 2

place_by : ℕ → ℕ
place_by i =
    let p : ℕ = IV.partition 4 32 36 2 v4 i in
    let n : ℕ = counter_by i in
    cell 4 36 p (IV.block_at 4 32 36 2 v4 p n) (IV.row_at 4 32 36 2 v4 n) (IV.column_at 4 32 36 2 v4 n)

counted : (i : ℕ) → IV.pt 4 32 36 2 v4 i ≡ counter_by i
unfolding missed counter_by
counted i = omega (arith, pt-is 4 32 36 2 v4 v4 (omega arith) (omega arith) perm4 i)

place-by : (i : ℕ) → place_by i ≡ place 1 i
unfolding place partitions runs order IV.place place_by
place-by i =
    let p : ℕ = IV.partition 4 32 36 2 v4 i in
    sym (ap (λ (n : ℕ). cell 4 36 p (IV.block_at 4 32 36 2 v4 p n) (IV.row_at 4 32 36 2 v4 n) (IV.column_at 4 32 36 2 v4 n)) (counted i))

computed : Hold (points_by counter_by place_by)
unfolding points_by counter_by place_by v v4 p1_position pids_position I.position I.partition I.part_index I.block I.k_of I.row I.column II.position II.partition II.part_index II.block II.k_of IV.partition IV.part_index IV.block_at IV.row_at IV.column_at matrix_row matrix_column cell cell_of partition_of block_of row_of column_of position_of position_at coded output back number sequence field sum parity rsid assembled stored encoded
computed = refl

pub probes-hold : Hold points
probes-hold = subst₂ (λ (n f : ℕ → ℕ). Hold (points_by n f)) (fun_ext (λ i. sym (counted i))) (fun_ext place-by) computed
