-- Document 02, S-3: what is shown of the positions of PM, that they are document 01's rows and columns.
use Rattle.std.specs.Prelude.{◌≡◌, ℕ, ◌<◌}
use Rattle.bits.specs.Bits.{written}
use Rattle.interleaving.specs.declared.Position.{Position}
use Rattle.interleaving.specs.Matrix.{Inside, matrix_row, matrix_column, position_at, cell_of}
use Rattle.interleaving.specs.Once.{PositionsOnce}
use Rattle.interleaving.specs.Source.{at, Either}
use Rattle.interleaving.specs.PM.{p1_position, pids_position, p1_place, pids_place, matrix_at, matrix}
use Rattle.interleaving.specs.FinderPM.{source}

pub record PositionsPM : Type 0 where
  -- block 0 to 15, row 0 to 31, partition 0 to 19 and column 0 to 35
  pub p1-inside : (i : ℕ) → i < 365440 → Inside 20 16 36 (p1_position i)
  pub pids-inside : (i : ℕ) → i < 3200 → Inside 20 16 36 (pids_position i)
  pub once : PositionsOnce (Either 365440 3200) 20 16 36 (at p1_position pids_position) source
  -- a position has a row and a column of the matrix, and they have that position and no other
  pub row_lt : (p : Position) → Inside 20 16 36 p → matrix_row p < 512
  pub column-lt : (p : Position) → Inside 20 16 36 p → matrix_column 36 p < 720
  pub position-is : (p : Position) → Inside 20 16 36 p → position_at 36 (matrix_row p) (matrix_column 36 p) ≡ p
  -- and back
  pub inside : (y x : ℕ) → y < 512 → x < 720 → Inside 20 16 36 (position_at 36 y x)
  pub row_is : (y x : ℕ) → matrix_row (position_at 36 y x) ≡ y
  pub column-is : (y x : ℕ) → matrix_column 36 (position_at 36 y x) ≡ x
  -- each coded bit stands at its position
  pub p1-stands : (p1 pids : ℕ → ℕ) (i : ℕ) → i < 365440 → matrix_at p1 pids (p1_position i) ≡ p1 i
  pub pids-stands : (p1 pids : ℕ → ℕ) (i : ℕ) → i < 3200 → matrix_at p1 pids (pids_position i) ≡ pids i
  -- what is packed has the bit of a position in its cell, and is document 01's matrix, written cell by cell
  pub at-cell : (p1 pids : ℕ → ℕ) (p : Position) → Inside 20 16 36 p → matrix p1 pids (cell_of 20 36 p) ≡ matrix_at p1 pids p
  pub by-cells : (p1 pids : ℕ → ℕ) (c : ℕ) → matrix p1 pids c ≡ written pids_place pids 3200 (written p1_place p1 365440 (λ c. 0)) c
