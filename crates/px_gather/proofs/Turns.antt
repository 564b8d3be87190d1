-- The cell of a bit by its byte: the eight steps of a byte go to the same partitions in every byte, M entries on from byte to byte, and the entries of
-- a turn of 1152 stand in their blocks as those of the first turn do. Assumes nothing.
use mathlib.Core.Path.{◌≡◌, refl, sym, ap, ◌∙◌}
use Prim.Native.Nat.{ℕ, zero, suc, ◌+◌, ◌*◌, ◌/◌, ◌%◌, ◌≤◌, ◌<◌}
use native.Mathlib.Nat.{mul-le-mul}
use native.Mathlib.Omega.{arith}
use mir.Syntax.{w64}
use mir.Val.{Fits}
use Rattle.interleaving.specs.InverseIV as Inv
use Rattle.interleaving.specs.PX.{partitions, runs, place}
use Rattle.interleaving.proofs.PXKinds.{kind-is}
use Rattle.px_gather.specs.Entries.{entry, spot, part_of, count_of}
use Rattle.px_gather.proofs.Entries.{entry-is, missed-le, part-lt, place_is}

-- what the table holds, c the columns of a partition and j the partitions, and its bound
pub spot_is : (kind n c j : ℕ) → c ≡ 36 → j ≡ partitions kind → 11 * n % 1152 / c * (c * j) + 11 * n % 1152 % c ≡ spot kind n
unfolding spot
spot_is kind n c j c-is j-is = rw (c-is, j-is)

pub spot-lt : (kind n : ℕ) → kind < 2 → spot kind n < 4608
unfolding spot partitions
spot-lt zero n h = omega arith
spot-lt (suc zero) n h = omega arith
spot-lt (suc (suc kind)) n h = absurd (omega arith)

-- the row and the column within a block
turned : (kind b r e p : ℕ) → kind < 2
    → (32 * b + r) * (partitions kind * 36) + (36 * p + e) ≡ b * (1152 * partitions kind) + (r * (36 * partitions kind) + e + 36 * p)
unfolding partitions
turned zero b r e p h = omega arith
turned (suc zero) b r e p h = omega arith
turned (suc (suc kind)) b r e p h = absurd (omega arith)

-- the entry n of a turn
pub entry-turn : (kind p turn n : ℕ) → kind < 2 → n < 1152
    → (turn + (n + p * 7)) % 32 * (1152 * partitions kind) + (spot kind n + 36 * p) ≡ entry kind p (1152 * turn + n)
unfolding spot
entry-turn kind p turn n hk h =
    let high : (1152 * turn + n) / 1152 ≡ turn = omega arith in
    let low : (1152 * turn + n) % 1152 ≡ n = omega arith in
    let same : 11 * (1152 * turn + n) % 1152 ≡ 11 * n % 1152 = omega arith in
    rw (← entry-is kind p (1152 * turn + n), high, low, same, turned kind ((turn + (n + p * 7)) % 32) (11 * n % 1152 / 36) (11 * n % 1152 % 36) p hk)

-- the step u of the byte q: its partition is that of the step u, and its counter M for each byte more
step-on : (kind q u : ℕ) → kind < 2
    → ((8 * q + u + 2 * (runs kind / 4)) % 8 / runs kind ≡ (u + 2 * (runs kind / 4)) % 8 / runs kind)
    × ((8 * q + u + 2 * (runs kind / 4)) / 8 * runs kind + (8 * q + u + 2 * (runs kind / 4)) % runs kind
    ≡ q * runs kind + ((u + 2 * (runs kind / 4)) / 8 * runs kind + (u + 2 * (runs kind / 4)) % runs kind))
unfolding runs
step-on zero q u h = (omega arith, omega arith)
step-on (suc zero) q u h = (omega arith, omega arith)
step-on (suc (suc kind)) q u h = absurd (omega arith)

-- ---- the eight steps of a byte

module _ (kind u : ℕ) (hk : kind < 2) where
  pub part-is : part_of kind u ≡ (u + 2 * (runs kind / 4)) % 8 / runs kind
  unfolding part_of
  part-is = refl

  pub part-few : part_of kind u < 4
  part-few = omega (arith, part-lt kind hk u (part_of kind u) part-is, (kind-is kind hk).J-le)

  pub count-sum : count_of kind u + Inv.missed (runs kind) (part_of kind u) ≡ (u + 2 * (runs kind / 4)) / 8 * runs kind + (u + 2 * (runs kind / 4)) % runs kind
  unfolding count_of
  count-sum = omega (arith, missed-le kind hk u (part_of kind u) part-is)

  -- the same of the partition p and the counter o that the code finds
  module _ (p : ℕ) (p-is : p ≡ part_of kind u) where
    pub missed-at : Inv.missed (runs kind) p ≤ (u + 2 * (runs kind / 4)) / 8 * runs kind + (u + 2 * (runs kind / 4)) % runs kind
    missed-at = missed-le kind hk u p (p-is ∙ part-is)

    pub count-of : (o : ℕ) → o + Inv.missed (runs kind) p ≡ (u + 2 * (runs kind / 4)) / 8 * runs kind + (u + 2 * (runs kind / 4)) % runs kind → o ≡ count_of kind u
    count-of o o_is = omega (arith, count-sum, ap (Inv.missed (runs kind)) p-is)

-- they take M entries of each partition
pub count-lt : (kind u : ℕ) → kind < 2 → u < 8 → count_of kind u < runs kind
unfolding runs Inv.missed count_of part_of
count-lt zero u h hu = omega arith
count-lt (suc zero) u h hu = omega arith
count-lt (suc (suc kind)) u h hu = absurd (omega arith)

-- ---- a byte in its turn, which takes 144 * J bytes

-- the cell of the step u of the byte q, whose first entry is entry n of its turn
pub byte-cell : (kind turn n u q : ℕ) → kind < 2 → 1152 * turn + n ≡ q * runs kind → entry kind (part_of kind u) (1152 * turn + (n + count_of kind u)) ≡ place kind (8 * q + u)
byte-cell kind turn n u q hk q-is =
    let e : 1152 * turn + (n + count_of kind u) ≡ q * runs kind + count_of kind u = omega arith in
    let on = step-on kind q u hk in
    ap (entry kind (part_of kind u)) e
    ∙ place_is kind hk (8 * q + u) (part_of kind u) (part-is kind u hk ∙ sym on.0) (q * runs kind + count_of kind u) (omega (arith, on.1, count-sum kind u hk))

-- the products and sums of `entry` fit: b blocks, w cells in a block, and the place e in it
pub blocks-fit : (x b w e : ℕ) → b ≡ 32 → w ≤ 4608 → e ≤ 4750 → Fits w64 (x % b * w) × Fits w64 (x % b * w + e)
blocks-fit x b w e b-is h l =
    let r : x % b ≤ 31 = rw b-is (omega arith) in
    let p : x % b * w ≤ 31 * 4608 = mul-le-mul {n₂ = 31} {m₂ = 4608} r h in
    (omega arith, omega arith)
