-- The step that writes a cell, as the code computes it: by the cell's row and column. Assumes nothing.
use mathlib.Core.Path.{◌≡◌}
use Prim.Native.Nat.{ℕ, ◌*◌, ◌/◌, ◌%◌, ◌<◌}
use native.Mathlib.Omega.{arith}
use Rattle.interleaving.specs.Matrix.{position_at, position_of, partition_of, block_of, row_of, column_of}
use Rattle.interleaving.specs.InverseIV as Inv
use Rattle.interleaving.specs.PX.{partitions, runs, order, cells}
use Rattle.interleaving.specs.FinderPX.{source}
use Rattle.interleaving.proofs.Matrix.{partition_of-lt, block_of-lt}
use Rattle.interleaving.proofs.PXKinds.{Kind, kind-is, coded_bytes-is}

module _ (kind : ℕ) (hk : kind < 2) where
  abbrev J : ℕ
  J = partitions kind

  abbrev M : ℕ
  M = runs kind

  abbrev K : Kind J M (order kind)
  K = kind-is kind hk

  -- y is the cell's row, and z its column

  module _ (c y z : ℕ) (y-is : y ≡ c / (J * 36)) (z-is : z ≡ c % (J * 36)) (hc : c < cells kind) where
    width : 0 < J * 36
    width = omega (arith, K.J-pos)

    pub part-of-lt : z / 36 < J
    unfolding partition_of position_of position_at
    part-of-lt = rw z-is (partition_of-lt J 36 c width)

    pub block-of-lt : y / 32 < 32
    unfolding block_of position_of position_at
    block-of-lt = rw y-is (block_of-lt J 36 c width 32 (omega (arith, coded_bytes-is kind hk)))

    pub source_is : Inv.index J M (z / 36) (Inv.count 32 36 5027 (z / 36) (y / 32) (y % 32) (z % 36)) ≡ source kind c
    unfolding source Inv.source partition_of block_of row_of column_of position_of position_at
    source_is = rw (K.plain (c % (J * 36) / 36) (rw z-is at part-of-lt), y-is, z-is)
