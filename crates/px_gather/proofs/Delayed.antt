-- Where a coded bit is read, by turns: the bits of the sixteen turns of an L1 frame stand as the first turn's do, a block on from turn to turn, whichever
-- half of the internal matrix takes them. Assumes nothing.
use mathlib.Core.Path.{◌≡◌, sym, ap, ◌∙◌}
use Prim.Native.Nat.{ℕ, zero, suc, ◌+◌, ◌-◌, ◌*◌, ◌%◌, ◌≤◌, ◌<◌}
use native.Mathlib.Nat.{mod-eq_of_lt, mul-le-mul}
use native.Mathlib.Omega.{arith}
use Rattle.interleaving.specs.PX.{partitions, runs, coded_bytes, coded_bits, cells, step_of, place, later}
use Rattle.interleaving.proofs.Mod.{mod-of}
use Rattle.interleaving.proofs.Steps.{later-lt}
use Rattle.px_steps.proofs.Residues.{in_frame, in-entries}
use Rattle.px_gather.specs.Entries.{spot, part_of, count_of}
use Rattle.px_gather.proofs.Entries.{part-lt}
use Rattle.px_gather.proofs.Turns.{entry-turn, byte-cell, count-lt, part-is}

-- the distance from a step to its cell, counted around the matrix
module _ (kind half j i c : ℕ) (i-is : i ≡ step_of kind half j) (c-is : c ≡ place kind i) (hi : i < cells kind) (hc : c < cells kind) where
  pub later-around : c < i → j + (c + cells kind - i) ≡ later kind half j
  unfolding later
  later-around h = rw (← i-is, ← c-is, mod-eq_of_lt (let l : c + cells kind - i < cells kind = omega arith in l))

  pub later-ahead : i ≤ c → j + (c - i) ≡ later kind half j
  unfolding later
  later-ahead h =
      rw (← i-is, ← c-is, mod-of (cells kind) 1 (c - i) (c + cells kind - i) (omega arith) (omega arith))

-- ---- the bytes of a turn: 144 * J, and sixteen turns in an L1 frame

-- the step of the bit u of the byte g of the turn t
turn-sums : (kind half t g u : ℕ) → kind < 2
    → (8 * (144 * partitions kind * t + g) + u ≡ 1152 * partitions kind * t + (8 * g + u))
    × (step_of kind half (8 * (144 * partitions kind * t + g) + u) ≡ 1152 * partitions kind * (16 * half + t) + (8 * g + u))
    × (step_of kind 0 (8 * g + u) ≡ 1152 * partitions kind * 0 + (8 * g + u))
unfolding partitions coded_bytes
turn-sums zero half t g u h = (omega arith, omega arith, omega arith)
turn-sums (suc zero) half t g u h = (omega arith, omega arith, omega arith)
turn-sums (suc (suc kind)) half t g u h = absurd (omega arith)

-- its entry in its turn
entry-sums : (kind turn g u i : ℕ) → kind < 2 → i ≡ 1152 * partitions kind * turn + (8 * g + u)
    → (i ≡ 8 * (144 * partitions kind * turn + g) + u) × (1152 * turn + g * runs kind ≡ (144 * partitions kind * turn + g) * runs kind)
unfolding partitions runs
entry-sums zero turn g u i h i-is = (omega arith, omega arith)
entry-sums (suc zero) turn g u i h i-is = (omega arith, omega arith)
entry-sums (suc (suc kind)) turn g u i h i-is = absurd (omega arith)

pub first-sums : (kind g : ℕ) → kind < 2 → 1152 * 0 + g * runs kind ≡ g * runs kind
first-sums kind g h = omega arith

spot_in : (kind n p : ℕ) → kind < 2 → p < partitions kind → spot kind n + 36 * p < 1152 * partitions kind
unfolding spot partitions
spot_in zero n p h hp = omega arith
spot_in (suc zero) n p h hp = omega arith
spot_in (suc (suc kind)) n p h hp = absurd (omega arith)

byte-in : (kind g u : ℕ) → kind < 2 → g < 144 * partitions kind → u < 8 → 8 * g + u < 1152 * partitions kind
byte-in kind g u h hg hu = omega arith

-- ---- the distance from a step to its cell does not hang on the turn

around : (kind turn k e x : ℕ) → kind < 2 → turn < 32 → e < 1152 * partitions kind → x < 1152 * partitions kind
    → ((turn + k) % 32 * (1152 * partitions kind) + e + cells kind - (1152 * partitions kind * turn + x)) % cells kind
    ≡ (k % 32 * (1152 * partitions kind) + e + cells kind - x) % cells kind
unfolding partitions coded_bytes
around zero turn k e x h ht he hx = omega arith
around (suc zero) turn k e x h ht he hx = omega arith
around (suc (suc kind)) turn k e x h ht he hx = absurd (omega arith)

module _ (kind g u : ℕ) (hk : kind < 2) (hg : g < 144 * partitions kind) (hu : u < 8) where
  -- the entry, and its place in its block
  abbrev n : ℕ
  n = g * runs kind + count_of kind u

  abbrev p : ℕ
  p = part_of kind u

  n-lt : n < 1152
  n-lt = omega (arith, count-lt kind u hk hu, in-entries kind g hk hg)

  p-lt : p < partitions kind
  p-lt = part-lt kind hk u p (part-is kind u hk)

  cell_at : (turn i : ℕ) → i ≡ 1152 * partitions kind * turn + (8 * g + u)
      → place kind i ≡ (turn + (n + p * 7)) % 32 * (1152 * partitions kind) + (spot kind n + 36 * p)
  cell_at turn i i-is =
      let sums = entry-sums kind turn g u i hk i-is in
      ap (place kind) sums.0
      ∙ sym (byte-cell kind turn (g * runs kind) u (144 * partitions kind * turn + g) hk sums.1)
      ∙ sym (entry-turn kind p turn n hk n-lt)

  distance : (turn i : ℕ) → turn < 32 → i ≡ 1152 * partitions kind * turn + (8 * g + u)
      → (place kind i + cells kind - i) % cells kind
      ≡ ((n + p * 7) % 32 * (1152 * partitions kind) + (spot kind n + 36 * p) + cells kind - (8 * g + u)) % cells kind
  distance turn i ht i-is =
      ap (λ (c : ℕ). (c + cells kind - i) % cells kind) (cell_at turn i i-is)
      ∙ ap (λ (s : ℕ). ((turn + (n + p * 7)) % 32 * (1152 * partitions kind) + (spot kind n + 36 * p) + cells kind - s) % cells kind) i-is
      ∙ around kind turn (n + p * 7) (spot kind n + 36 * p) (8 * g + u) hk ht (spot_in kind n p hk p-lt) (byte-in kind g u hk hg hu)

shift : (a b x z w : ℕ) → a ≡ b + x → z ≡ w → a + z ≡ b + (x + w)
shift a b x z w e f = omega arith

-- the bit u of the byte g of the turn t
pub later-turn : (kind half t g u : ℕ) → kind < 2 → half < 2 → t < 16 → g < 144 * partitions kind → u < 8
    → later kind half (8 * (144 * partitions kind * t + g) + u) ≡ 1152 * partitions kind * t + later kind 0 (8 * g + u)
unfolding later
later-turn kind half t g u hk hh ht hg hu =
    let sums = turn-sums kind half t g u hk in
    shift _ _ _ _ _ sums.0
    (distance kind g u hk hg hu (16 * half + t) _ (omega arith) sums.1 ∙ sym (distance kind g u hk hg hu 0 _ (omega arith) sums.2))

-- the place that the code finds for it: i is the turn's first cell, and l the first turn's place
pub later-found : (kind half t g u i l : ℕ) → kind < 2 → half < 2 → t < 16 → g < 144 * partitions kind → u < 8
    → i ≡ 1152 * partitions kind * t → l ≡ later kind 0 (8 * g + u)
    → (i + l ≡ later kind half (8 * (144 * partitions kind * t + g) + u)) × (i + l < 3 * coded_bits kind)
later-found kind half t g u i l hk hh ht hg hu i-is l-is =
    let e : i + l ≡ later kind half (8 * (144 * partitions kind * t + g) + u) = rw (i-is, l-is) (sym (later-turn kind half t g u hk hh ht hg hu)) in
    (e, omega (arith, e, later-lt kind half (8 * (144 * partitions kind * t + g) + u) (in_frame kind t g u hk ht hg hu).1))

pub entry-le : (g m : ℕ) → g < 576 → m ≤ 4 → g * m ≤ 576 * 4
entry-le g m h l = mul-le-mul {n₂ = 576} {m₂ = 4} (omega arith) l
