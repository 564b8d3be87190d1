-- The cell of a step and where a coded bit stands later, as the code counts them. Assumes nothing.
use mathlib.Core.Path.{◌≡◌, sym, ap, ◌∙◌}
use Prim.Native.Nat.{ℕ, ◌+◌, ◌-◌, ◌*◌, ◌/◌, ◌%◌, ◌≤◌, ◌<◌}
use native.Mathlib.Nat.{add-zero, mul-le-mul_right}
use native.Mathlib.Omega.{arith}
use Rattle.interleaving.specs.InverseIV.{missed}
use Rattle.interleaving.specs.PX.{partitions, runs, coded_bits, cells, step_of, place, later}
use Rattle.interleaving.proofs.Steps.{later-lt}
use Rattle.px_gather.proofs.Delayed.{later-around, later-ahead}
use Rattle.px_gather.proofs.Entries.{part-is, n-pt, counter-lt}
use Rattle.queries.proofs.Origins.{step-lt}
use Rattle.locating.specs.Writing.{partition_of, counter_of}

-- ---- the partition and the counter of step i: M is 4 in MP2, with an offset of 2, and else 2

narrow : (i p n : ℕ) → i < cells 0 → p ≡ (i + 2) % 8 / 4 → n ≡ (i + 2) / 8 * 4 + (i + 2) % 4 - (2 - 2 * p)
    → (p ≡ partition_of 0 i) × (n ≡ counter_of 0 i) × (p < 4) × (n < 36864)
unfolding runs missed partition_of counter_of
narrow i p n l p-is n-is =
    let hk : 0 < 2 = omega arith in
    let sum : n + (2 - p * 4) ≡ (i + 2) / 8 * 4 + (i + 2) % 4 = omega arith in
    (part-is 0 hk i p p-is, n-pt 0 hk i p p-is n sum, omega arith, counter-lt 0 hk i p p-is n sum l)

wide-part : (i p : ℕ) → p ≡ i % 8 / 2 → p ≡ (i + 0) % 8 / 2
wide-part i p e = e ∙ ap (λ (x : ℕ). x % 8 / 2) (sym (add-zero i))

wide-sum : (i p n : ℕ) → n ≡ i / 8 * 2 + i % 2 → n + (0 - p * 2) ≡ (i + 0) / 8 * 2 + (i + 0) % 2
wide-sum i p n e =
    let none : n + (0 - p * 2) ≡ n = omega arith in
    none ∙ e ∙ ap (λ (x : ℕ). x / 8 * 2 + x % 2) (sym (add-zero i))

wide : (i p n : ℕ) → i < cells 1 → p ≡ i % 8 / 2 → n ≡ i / 8 * 2 + i % 2
    → (p ≡ partition_of 1 i) × (n ≡ counter_of 1 i) × (p < 4) × (n < 36864)
unfolding runs missed partition_of counter_of
wide i p n l p-is n-is =
    let hk : 1 < 2 = omega arith in
    let part = wide-part i p p-is in
    let sum = wide-sum i p n n-is in
    (part-is 1 hk i p part, n-pt 1 hk i p part n sum, omega arith, counter-lt 1 hk i p part n sum l)

pub narrow-entry : (kind i p n : ℕ) → kind ≡ 0 → i < cells kind → p ≡ (i + 2) % 8 / 4 → n ≡ (i + 2) / 8 * 4 + (i + 2) % 4 - (2 - 2 * p)
    → (p ≡ partition_of kind i) × (n ≡ counter_of kind i) × (p < 4) × (n < 36864)
narrow-entry kind i p n e l p-is n-is = rw e (narrow i p n (rw e at l) p-is n-is)

pub wide-entry : (kind i p n : ℕ) → kind ≡ 1 → i < cells kind → p ≡ i % 8 / 2 → n ≡ i / 8 * 2 + i % 2
    → (p ≡ partition_of kind i) × (n ≡ counter_of kind i) × (p < 4) × (n < 36864)
wide-entry kind i p n e l p-is n-is = rw e (wide i p n (rw e at l) p-is n-is)

pub width_narrow : (kind : ℕ) → kind ≡ 0 → 72 ≡ partitions kind * 36
unfolding partitions
width_narrow kind e = rw e

pub width-wide : (kind : ℕ) → kind ≡ 1 → 144 ≡ partitions kind * 36
unfolding partitions
width-wide kind e = rw e

pub rows-small : (y w : ℕ) → y < 1024 → w ≤ 144 → y * w < 147456
rows-small y w ly lw = let l : y ≤ 1023 = omega arith in omega (arith, mul-le-mul_right w l)

-- ---- where coded bit j of an L1 frame stands later: n coded bits are an L1 frame's, and c is the cell that its step writes

module _ (kind n half j : ℕ) (hk : kind < 2) (n-is : n ≡ coded_bits kind) (lh : half < 2) (lj : j < coded_bits kind)
    (c : ℕ) (c-is : c ≡ place kind (half * n + j)) (lc : c < cells kind) where
  i-is : half * n + j ≡ step_of kind half j
  i-is = ap (λ (x : ℕ). half * x + j) n-is

  pub around : c < half * n + j → (j + (2 * n + c - (half * n + j)) ≡ later kind half j) × (j + (2 * n + c - (half * n + j)) < 3 * coded_bits kind)
  around h =
      let e = later-around kind half j (half * n + j) c i-is c-is (step-lt kind n half j hk n-is lh lj) lc h in
      let same : j + (2 * n + c - (half * n + j)) ≡ later kind half j = omega (arith, e) in
      (same, omega (arith, later-lt kind half j lj))

  pub ahead : half * n + j ≤ c → (j + (c - (half * n + j)) ≡ later kind half j) × (j + (c - (half * n + j)) < 3 * coded_bits kind)
  ahead h =
      let e = later-ahead kind half j (half * n + j) c i-is c-is (step-lt kind n half j hk n-is lh lj) lc h in
      (e, omega (arith, e, later-lt kind half j lj))
