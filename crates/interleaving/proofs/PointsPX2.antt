-- The definitions give our own points for PX2: computed. Assumes nothing.
use mathlib.Core.Path.{◌≡◌, refl}
use mathlib.Core.List.{List, map}
use Prim.Native.Nat.{ℕ}
use Rattle.interleaving.specs.Matrix.{matrix_row, matrix_column, cell_of}
use Rattle.interleaving.specs.EquationsI as I
use Rattle.interleaving.specs.PX.{v4}
use Rattle.interleaving.specs.PX2.{partitions, runs, v8, order, frame_bits, place}
use Rattle.interleaving.specs.PointsPX2.{px2_points}

pub px2-points : map (λ (p : List ℕ × List ℕ). p.0) px2_points ≡ map (λ (p : List ℕ × List ℕ). p.1) px2_points
unfolding px2_points place partitions runs order v4 v8 frame_bits matrix_row matrix_column cell_of I.place I.position I.partition I.part_index I.block I.k_of I.row I.column
px2-points = refl
