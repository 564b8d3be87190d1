-- What the code's shifts, masks and products are, over the two kinds. Assumes nothing.
use mathlib.Core.Path.{◌≡◌, refl}
use Prim.Native.Nat.{ℕ, zero, suc, ◌+◌, ◌-◌, ◌*◌, ◌/◌, ◌%◌, ◌^◌, ◌≤◌, ◌<◌}
use native.Mathlib.Nat.{mul-le-mul, div-le_self, le_trans, mod-lt, div-add-mod'}
use native.Mathlib.Omega.{arith}
use lib.Bits.{bit_and, and_mask}
use mir.Syntax.{w64}
use mir.Val.{Fits}
use Rattle.interleaving.specs.PX.{partitions, runs}
use Rattle.interleaving.proofs.PXKinds.{kind-is}

-- M is a power of two
pub bits-of-M : (kind : ℕ) → kind < 2 → 2 ^ (2 - kind) ≡ runs kind
unfolding runs
bits-of-M zero h = refl
bits-of-M (suc zero) h = refl
bits-of-M (suc (suc kind)) h = absurd (omega arith)

pub mask-of-M : (kind : ℕ) → kind < 2 → (x m : ℕ) → m ≡ runs kind → (bit_and x (m - 1) ≡ x % runs kind) × (bit_and x (m - 1) < 4)
mask-of-M kind h x m m-is =
    let e : bit_and x (m - 1) ≡ x % runs kind = rw m-is (rw (bits-of-M kind h) at (and_mask x (2 - kind))) in
    let K = kind-is kind h in
    (e, rw e (omega (arith, mod-lt x K.M-pos, K.M-le)))

-- 36 * J columns are 72 or 144
pub row-of-is : (kind : ℕ) → kind < 2 → (c : ℕ) → c / 72 / 2 ^ kind ≡ c / (partitions kind * 36)
unfolding partitions
row-of-is zero h c = omega arith
row-of-is (suc zero) h c = omega arith
row-of-is (suc (suc kind)) h c = omega arith

-- the column of a cell, y its row
pub column-is : (kind c y j : ℕ) → y ≡ c / (partitions kind * 36) → j ≡ partitions kind → c - y * (j * 36) ≡ c % (partitions kind * 36)
column-is kind c y j y-is j-is = rw (y-is, j-is) (omega (arith, div-add-mod' c (partitions kind * 36)))

-- the products of `step` fit
pub step_fits : (kind : ℕ) → kind < 2 → (p x q j m : ℕ) → p < partitions kind → x ≤ 36866 → q ≡ x / runs kind → j ≡ partitions kind → m ≡ runs kind
    → (q * j ≤ 147464) × ((q * j + p) * m ≤ 589872)
step_fits kind hk p x q j m hp hx q-is j-is m-is =
    let K = kind-is kind hk in
    let a : q * j ≤ 36866 * 4 = rw (q-is, j-is) (mul-le-mul (le_trans (div-le_self x (runs kind)) hx) K.J-le) in
    let s : q * j + p ≤ 147468 = omega (arith, K.J-le) in
    let b : (q * j + p) * m ≤ 147468 * 4 = rw m-is (mul-le-mul s K.M-le) in
    (a, b)

-- the product and the sum of `byte_of` fit: w bytes in an L1 frame, one or none before, and byte j
half_le : (h w : ℕ) → h < 2 → w ≤ 9216 → h * w ≤ 1 * 9216
half_le h w lh lw = mul-le-mul {n₂ = 1} {m₂ = 9216} (omega arith) lw

pub half-fits : (h w : ℕ) → h < 2 → w ≤ 9216 → Fits w64 (h * w)
half-fits h w lh lw = omega (arith, half_le h w lh lw)

pub byte_fits : (h w j : ℕ) → h < 2 → w ≤ 9216 → j < 9216 → Fits w64 (h * w + j)
byte_fits h w j lh lw lj = omega (arith, half_le h w lh lw)
