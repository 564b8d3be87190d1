-- The points hold. Assumes nothing.
use mathlib.Core.Path.{◌≡◌, refl}
use mathlib.Core.List.{List, map}
use Prim.Native.Nat.{ℕ}
use Rattle.control.specs.Modes.{modes, one_of, covered}
use Rattle.interleaving.specs.Matrix.{matrix_row, matrix_column, cell_of, cell}
use Rattle.interleaving.specs.EquationsI as I
use Rattle.interleaving.specs.EquationsII as II
use Rattle.interleaving.specs.EquationsIV as IV
use Rattle.interleaving.specs.PM.{v, p1_position, pids_position}
use Rattle.interleaving.specs.PX.{partitions, runs, order, v2, v4, coded_bytes, place, later}
use Rattle.runs.specs.MainChannels.{main_of}
use Rattle.runs.specs.Lengths.{kind_of}
use Rattle.runs.specs.Starting.{aged, valid}
use Rattle.queries.specs.FinderPX.{kind_of_number}
use Rattle.locating.specs.Locator.{standing, in_p1, in_pids, located}
use Rattle.locating.specs.LocatorPX as PX
use Rattle.locating.specs.LocatorPX.{located_px}
use Rattle.locating.specs.Points.{located_points}

abbrev Cells : Type 0
Cells = List ℕ

pub located-points : map (λ (p : Cells × Cells). p.0) located_points ≡ map (λ (p : Cells × Cells). p.1) located_points
unfolding located_points located in_p1 in_pids standing located_px PX.standing valid aged covered one_of modes main_of kind_of kind_of_number later p1_position pids_position v place partitions runs order v2 v4 coded_bytes cell cell_of matrix_row matrix_column I.position I.partition I.part_index I.block I.k_of I.row I.column II.position II.partition II.part_index II.block II.k_of IV.place IV.partition IV.part_index IV.counter IV.pt IV.block_at IV.row_at IV.column_at
located-points = refl
