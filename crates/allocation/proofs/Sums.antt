-- Sums for the first sources, of the smaller numbers and after one more. Assumes nothing.
use mathlib.Core.Path.{◌≡◌, refl, ap₂}
use mathlib.Core.List.{List}
use Prim.Native.Nat.{ℕ, zero, suc, ◌+◌, ◌<◌, ◌≤◌, min}
use native.Mathlib.Nat.{min-le_left}
use native.Mathlib.Decide.{ℕ_discrete}
use native.Mathlib.Omega.{arith}
use lib.ListN.{get_or, length, set}
use lib.Seq.{get_or-set_same, get_or-set_other}
use Rattle.allocation.specs.Allocation.{total, smaller}
use Rattle.bits.proofs.Listed.{get_or-listed}

pub smaller-at : (shares waiting : List ℕ) (d : ℕ) → d < 8 → get_or (smaller shares waiting) d 0 ≡ min (get_or shares d 0) (get_or waiting d 0)
unfolding smaller
smaller-at shares waiting d h = get_or-listed 8 (λ d. min (get_or shares d 0) (get_or waiting d 0)) d 0 h

pub total-smaller : (shares waiting : List ℕ) (k : ℕ) → k ≤ 8 → total k (smaller shares waiting) ≤ total k shares
unfolding total
total-smaller shares waiting zero h = omega arith
total-smaller shares waiting (suc k) h =
    omega (arith, total-smaller shares waiting k (omega arith), smaller-at shares waiting k (omega arith), min-le_left (get_or shares k 0) (get_or waiting k 0))

pub part-of-total : (l : List ℕ) (d k : ℕ) → d < k → get_or l d 0 ≤ total k l
unfolding total
part-of-total l d zero h = absurd (omega arith)
part-of-total l d (suc k) h = go (ℕ_discrete d k) (λ m. part-of-total l d k m)
  where
    go : Dec (d ≡ k) → (d < k → get_or l d 0 ≤ total k l) → get_or l d 0 ≤ total k l + get_or l k 0
    go (yes e) before = rw e (omega arith)
    go (no n) before = omega (arith, before (omega arith))

module _ (l : List ℕ) (d : ℕ) (h : d < length l) where
  total-above : (k : ℕ) → k ≤ d → total k (set l d (get_or l d 0 + 1)) ≡ total k l
  unfolding total
  total-above zero m = refl
  total-above (suc k) m =
      let n : k ≡ d → ⊥ = λ e. omega arith in
      ap₂ ◌+◌ (total-above k (omega arith)) (get_or-set_other l d k (get_or l d 0 + 1) 0 n)

  pub total-bumped : (k : ℕ) → d < k → total k (set l d (get_or l d 0 + 1)) ≡ total k l + 1
  unfolding total
  total-bumped zero m = absurd (omega arith)
  total-bumped (suc k) m = go (ℕ_discrete k d) (λ l. total-bumped k l)
    where
      go : Dec (k ≡ d) → (d < k → total k (set l d (get_or l d 0 + 1)) ≡ total k l + 1) → total k (set l d (get_or l d 0 + 1)) + get_or (set l d (get_or l d 0 + 1)) k 0 ≡ total k l + get_or l k 0 + 1
      go (yes e) before =
          let a : total k (set l d (get_or l d 0 + 1)) ≡ total k l = total-above k (omega arith) in
          let b : get_or (set l d (get_or l d 0 + 1)) k 0 ≡ get_or l k 0 + 1 = rw e (get_or-set_same l d (get_or l d 0 + 1) 0 h) in
          omega arith
      go (no n) before =
          let a : total k (set l d (get_or l d 0 + 1)) ≡ total k l + 1 = before (omega arith) in
          let b : get_or (set l d (get_or l d 0 + 1)) k 0 ≡ get_or l k 0 = get_or-set_other l d k (get_or l d 0 + 1) 0 n in
          omega arith
