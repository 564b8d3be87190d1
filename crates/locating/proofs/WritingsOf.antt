-- The writings of coded bits, as the code puts them together. Assumes nothing.
use mathlib.Core.Path.{◌≡◌, refl, ap, ◌∙◌}
use Prim.Native.Nat.{ℕ, ◌+◌, ◌*◌, ◌/◌, ◌%◌, ◌<◌}
use native.Mathlib.Omega.{arith}
use Rattle.interleaving.specs.declared.Position.{Position}
use Rattle.interleaving.specs.Matrix.{matrix_row, matrix_column, cell_of, cell}
use Rattle.interleaving.specs.EquationsI as I
use Rattle.interleaving.specs.EquationsII as II
use Rattle.interleaving.specs.EquationsIV as IV
use Rattle.interleaving.specs.PM.{p1_position, pids_position}
use Rattle.interleaving.specs.PX.{partitions, runs, order, cells, place}
use Rattle.interleaving.proofs.BlockIV as P
use Rattle.interleaving.proofs.OncePX.{place-lt}
use Rattle.locating.specs.declared.writing.Writing.{Writing}
use Rattle.locating.specs.Writing.{partition_of, counter_of, p1_writing, pids_writing, px_position, px_writing}

-- ---- P1 and PIDS

pub p1-writing-is : (i c : ℕ) (p : Position) → p ≡ p1_position i → c ≡ cell_of 20 36 p → ◌≡◌ {A = Writing} (record { step = i; k = i / 320; position = p; cell = c }) (p1_writing i)
unfolding p1_writing I.k_of
p1-writing-is i c p p-is c-is = rw (c-is, p-is)

pub pids-writing-is : (i c : ℕ) (p : Position) → p ≡ pids_position i → c ≡ cell_of 20 36 p
    → ◌≡◌ {A = Writing} (record { step = i; k = i / 20 % 10 + 1142; position = p; cell = c }) (pids_writing i)
unfolding pids_writing II.k_of
pids-writing-is i c p p-is c-is = rw (c-is, p-is)

-- ---- P3 and P4: p is the partition of step i, and n its counter

abbrev block_by : (p n : ℕ) → ℕ
block_by p n = (n / 1152 + (n % 1152 + p * 7)) % 32

abbrev position_by : (p n : ℕ) → Position
position_by p n = record { block = block_by p n; row = 11 * n % 1152 / 36; partition = p; column = 11 * n % 1152 % 36 }

module _ (kind i p n w : ℕ) (p-is : p ≡ partition_of kind i) (n-is : n ≡ counter_of kind i) (w-is : w ≡ partitions kind * 36) where
  position-is : position_by p n ≡ px_position kind i
  unfolding px_position IV.row_at
  position-is =
      rw (
        P.block-is (partitions kind) 32 36 (runs kind) 5027 48 (order kind) (omega arith) (omega arith) refl (partition_of kind i) (counter_of kind i),
        P.column-is (partitions kind) 32 36 (runs kind) 5027 48 (order kind) (omega arith) (omega arith) refl (counter_of kind i),
        p-is,
        n-is,
      )

  place_at : cell_of (partitions kind) 36 (px_position kind i) ≡ place kind i
  unfolding place IV.place cell px_position partition_of counter_of
  place_at = refl

  cell-is : (32 * block_by p n + 11 * n % 1152 / 36) * w + (36 * p + 11 * n % 1152 % 36) ≡ place kind i
  unfolding cell_of matrix_row matrix_column
  cell-is = rw w-is (ap (cell_of (partitions kind) 36) position-is ∙ place_at)

  pub px-writing-is : ◌≡◌ {A = Writing}
      (record { step = i; k = n; position = position_by p n; cell = (32 * block_by p n + 11 * n % 1152 / 36) * w + (36 * p + 11 * n % 1152 % 36) })
      (px_writing kind i)
  unfolding px_writing
  px-writing-is = λ x. record { step = i; k = n-is x; position = position-is x; cell = cell-is x }

pub px-cell : (kind i : ℕ) → (px_writing kind i).cell ≡ place kind i
unfolding px_writing
px-cell kind i = refl

pub cell-written : (kind i : ℕ) {w : Writing} → w ≡ px_writing kind i → w.cell ≡ place kind i
cell-written kind i e = ap (λ (w : Writing). w.cell) e ∙ px-cell kind i

pub cell_below : (kind i : ℕ) (w : Writing) → kind < 2 → i < cells kind → w ≡ px_writing kind i → w.cell < cells kind
cell_below kind i w hk l e = rw (cell-written kind i e) (place-lt kind hk i l)
