-- The definitions give our own points for PM and for PX1 in MP2: computed. Assumes nothing.
use mathlib.Core.Path.{◌≡◌, refl}
use mathlib.Core.List.{List, map}
use Prim.Native.Nat.{ℕ}
use Rattle.interleaving.specs.Matrix.{cell, cell_of, matrix_row, matrix_column}
use Rattle.interleaving.specs.EquationsI as I
use Rattle.interleaving.specs.EquationsII as II
use Rattle.interleaving.specs.EquationsIV as IV
use Rattle.interleaving.specs.PM.{v, p1_position, pids_position}
use Rattle.interleaving.specs.PX.{partitions, runs, v2, v4, order, place}
use Rattle.interleaving.specs.Points.{table_points}

abbrev Cells : Type 0
Cells = List (List ℕ)

pub table-points : map (λ (p : Cells × Cells). p.0) table_points ≡ map (λ (p : Cells × Cells). p.1) table_points
unfolding table_points p1_position pids_position v place partitions runs order v2 v4 cell cell_of matrix_row matrix_column I.position I.partition I.part_index I.block I.k_of I.row I.column II.position II.partition II.part_index II.block II.k_of IV.place IV.partition IV.part_index IV.counter IV.pt IV.block_at IV.row_at IV.column_at
table-points = refl
