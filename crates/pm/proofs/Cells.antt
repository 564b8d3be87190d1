-- The positions of PM and their bits, as the code computes them. The P1 bits of every k have the blocks and partitions of the first 320 bits; k has row
-- and column alone. Assumes nothing.
use mathlib.Core.Path.{◌≡◌, sym, ap, ◌∙◌}
use Prim.Native.Nat.{ℕ, ◌+◌, ◌*◌, ◌/◌, ◌%◌, ◌-◌, ◌≤◌, ◌<◌}
use native.Mathlib.Omega.{arith}
use lib.Dec.{ltb, lt→ltb, ltb→lt}
use lib.ListN.{get_or}
use Rattle.interleaving.specs.declared.Position.{Position}
use Rattle.interleaving.specs.Matrix.{matrix_row, matrix_column, cell_of}
use Rattle.interleaving.specs.EquationsI as I
use Rattle.interleaving.specs.EquationsII as II
use Rattle.interleaving.specs.InverseI.{spot, k_of_position}
use Rattle.interleaving.specs.Source.{first, second}
use Rattle.interleaving.specs.PM.{v, p1_position, pids_position, pids_place}
use Rattle.interleaving.specs.FinderPM.{w, source}
use Rattle.interleaving.proofs.Matrix.{cond-true, cond-false}
use Rattle.pm.specs.FirstCells.{pids_start}

-- ---- the position of a bit

-- with M = 1 the partition index is the remainder
p1-index : (i : ℕ) → I.part_index 20 16 36 1 v i ≡ i % 20
unfolding I.part_index
p1-index i = omega arith

pub p1-position : (i p : ℕ) → p ≡ get_or v (i % 20) 0 → spot 36 p ((i / 20 + p * 7) % 16) (i / 320) ≡ p1_position i
unfolding p1_position spot I.position I.block I.k_of I.partition
p1-position i p e = rw (e, p1-index)

pub pids-position : (i p : ℕ) → p ≡ get_or v (i % 20) 0 → spot 36 p (i / 200) (i / 20 % 10 + 1142) ≡ pids_position i
unfolding pids_position spot II.position II.block II.k_of II.partition II.part_index
pids-position i p e = rw e

-- ---- the bit at a position

-- k is the position's, and s the turn of its partition
module _ (at : Position) (k s : ℕ) (k-is : k ≡ k_of_position 4 at) (s-is : s ≡ get_or w at.partition 0) where
  pub found-p1 : k < 1142 → source at ≡ first ((k * 16 + (at.block + (16 - at.partition * 7 % 16)) % 16) * 20 + s)
  unfolding source
  found-p1 h = rw (k-is, s-is) (cond-true (ltb (k_of_position 4 at) 1142) _ _ (lt→ltb (k_of_position 4 at) 1142 (rw k-is at h)))

  pub found-pids : 1142 ≤ k → source at ≡ second ((at.block * 10 + (k - 1142)) * 20 + s)
  unfolding source
  found-pids h = rw (k-is, s-is) (cond-false (ltb (k_of_position 4 at) 1142) _ _ (λ t. let m = ltb→lt (k_of_position 4 at) 1142 t in omega arith))

-- ---- the bits of one k

module _ (k t : ℕ) (h : t < 320) where
  same_index : I.part_index 20 16 36 1 v (320 * k + t) ≡ I.part_index 20 16 36 1 v t
  unfolding I.part_index
  same_index = omega arith

  pub same-partition : I.partition 20 16 36 1 v (320 * k + t) ≡ I.partition 20 16 36 1 v t
  unfolding I.partition
  same-partition = rw same_index

  pub same_block : I.block 20 16 36 1 v (320 * k + t) ≡ I.block 20 16 36 1 v t
  unfolding I.block
  same_block = rw same-partition (omega arith)

-- ---- the cells of the PIDS bits of one block and one k

pub pids-start-lt : (m : ℕ) → m < 160 → pids_start m < 367956
unfolding pids_start cell_of matrix_row matrix_column spot I.row I.column
pids-start-lt m h = omega arith

-- the partitions lie 36 columns apart
pub pids-cell : (m s start p : ℕ) → m < 160 → s < 20 → start ≡ pids_start m → p ≡ get_or v s 0 → start + 36 * p ≡ pids_place (20 * m + s)
unfolding pids_start
pids-cell m s start p hm hs e q =
    let i : ℕ = 20 * m + s in
    let here : i % 20 ≡ s = omega arith in
    let b : i / 200 ≡ m / 10 = omega arith in
    let d : i / 20 ≡ m = omega arith in
    let k : i / 20 % 10 ≡ m % 10 = ap (λ (x : ℕ). x % 10) d in
    let moved : cell_of 20 36 (spot 36 0 (m / 10) (m % 10 + 1142)) + 36 * p ≡ cell_of 20 36 (spot 36 p (m / 10) (m % 10 + 1142)) =
    unfold cell_of matrix_row matrix_column spot in omega arith in
    ap (λ (x : ℕ). x + 36 * p) e ∙ moved
    ∙ sym (ap (λ (x : ℕ). cell_of 20 36 (spot 36 p x (m % 10 + 1142))) b)
    ∙ sym (ap (λ (x : ℕ). cell_of 20 36 (spot 36 p (i / 200) (x + 1142))) k)
    ∙ ap (cell_of 20 36) (pids-position i p (rw here q))
