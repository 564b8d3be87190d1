-- The coded bit that stands in a cell of PX1 or PX2, as the code counts it, and the numbers of a kind from the cells of its rows. Assumes nothing.
use mathlib.Core.Path.{◌≡◌, refl, sym, ap, ◌∙◌}
use Prim.Native.Nat.{ℕ, ◌+◌, ◌-◌, ◌*◌, ◌≤◌, ◌<◌}
use native.Mathlib.Omega.{arith}
use Rattle.interleaving.specs.PX.{coded_bytes, coded_bits, cells, step_of}
use Rattle.interleaving.specs.FinderPX.{source, origin}
use Rattle.interleaving.proofs.FoundPX.{origin-around, origin-behind}
use Rattle.interleaving.proofs.Mod.{digits_lt}
use Rattle.interleaving.proofs.OncePX.{px-each-once}
use Rattle.interleaving.proofs.PXKinds.{coded_bytes-le}
use Rattle.interleaving.proofs.Steps.{step_of-lt}
use Rattle.runs.specs.declared.Kind.{Kind}
use Rattle.runs.specs.declared.Kind.TheVariants.{Unused, Narrow, Wide}
use Rattle.runs.specs.Lengths.{table_row}
use Rattle.queries.specs.FinderPX.{columns_of, frame_coded}

-- ---- kinds

-- an L1 frame's coded bits fill 512 rows
pub rows-hold : (k : Kind) → coded_bits (table_row k) ≡ 512 * columns_of k
unfolding coded_bytes
rows-hold Unused = refl
rows-hold Narrow = refl
rows-hold Wide = refl

-- and those of a transfer frame as many as 64
pub frame-holds : (k : Kind) → frame_coded k ≡ 64 * columns_of k
frame-holds Unused = refl
frame-holds Narrow = refl
frame-holds Wide = refl

pub columns-le : (k : Kind) → columns_of k ≤ 144
columns-le Unused = omega arith
columns-le Narrow = omega arith
columns-le Wide = omega arith

-- a channel that has columns has a row of the tables, and the other way round
pub used : (k : Kind) → (columns_of k ≡ 0 → ⊥) → table_row k < 2
used Unused h = absurd (h refl)
used Narrow h = omega arith
used Wide h = omega arith

pub has-columns : (k : Kind) → table_row k < 2 → 0 < columns_of k
has-columns Unused h = absurd (omega arith)
has-columns Narrow h = omega arith
has-columns Wide h = omega arith

-- a cell, in rows of n cells
pub cell-lt : (k : Kind) (n y column : ℕ) → n ≡ columns_of k → y < 512 → column < n → y * n + column < coded_bits (table_row k)
cell-lt k n y column e ly lc = omega (arith, digits_lt n 512 y column ly lc, rows-hold k)

pub cell-small : (k : Kind) (n y column : ℕ) → n ≡ columns_of k → y < 512 → column < n → y * n + column < 73728
cell-small k n y column e ly lc = omega (arith, cell-lt k n y column e ly lc, rows-hold k, columns-le k)

-- ---- the coded bit

-- n is the number of an L1 frame's coded bits
module _ (kind n half cell : ℕ) (hk : kind < 2) (n-is : n ≡ coded_bits kind) (lh : half < 2) (lc : cell < coded_bits kind) where
  pub step-lt : half * n + cell < cells kind
  step-lt = rw n-is (step_of-lt kind half cell lh lc)

  pub step_small : half * n + cell < 147456
  step_small = omega (arith, step-lt, coded_bytes-le kind hk)

  -- s is the step that writes the cell
  module _ (s : ℕ) (s-is : s ≡ source kind (half * n + cell)) where
    written-by : s ≡ source kind (step_of kind half cell)
    written-by = s-is ∙ ap (λ (x : ℕ). source kind (half * x + cell)) n-is

    s-lt : s < cells kind
    s-lt = rw s-is ((px-each-once kind hk).back _ step-lt)

    pub around : half * n + cell < s → (cell + (s - (half * n + cell)) ≡ origin kind half cell) × (cell + (s - (half * n + cell)) < 3 * coded_bits kind)
    around h = (rw (n-is, written-by) (sym (origin-around kind half cell hk lh lc (rw (n-is, written-by) at h))), omega (arith, s-lt))

    pub behind : s ≤ half * n + cell
        → (2 * n + cell - (half * n + cell - s) ≡ origin kind half cell) × (2 * n + cell - (half * n + cell - s) < 3 * coded_bits kind)
    behind h = (rw (n-is, written-by) (sym (origin-behind kind half cell hk lh lc (rw (n-is, written-by) at h))), omega arith)
