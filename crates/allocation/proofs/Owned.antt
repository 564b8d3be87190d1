-- Whose places are whose: a source's or nobody's, and lowest first. Assumes nothing.
use mathlib.Core.Path.{◌≡◌, refl}
use mathlib.Core.Logic.{◌⊎◌, inl, inr}
use mathlib.Core.Bool.{Bool, true, false, cond}
use mathlib.Core.List.{List}
use Prim.Native.Nat.{ℕ, zero, suc, ◌+◌, ◌-◌, ◌<◌, ◌≤◌}
use native.Mathlib.Omega.{arith}
use borrow.Author.Tests.{ltb-true, ltb-false}
use lib.Dec.{ltb}
use lib.ListN.{get_or}
use Rattle.allocation.specs.Owners.{owner_of}
use Rattle.allocation.specs.Promises.{Owner}

-- k sources from source d on
range : (k d : ℕ) (given : List ℕ) (q : ℕ) → (owner_of k d given q < d + k) ⊎ (owner_of k d given q ≡ 255)
unfolding owner_of
range zero d given q = inr refl
range (suc k) d given q = go (ltb q (get_or given d 0)) (range k (suc d) given (q - get_or given d 0))
  where
    go : (t : Bool) {o : ℕ} → (o < suc d + k) ⊎ (o ≡ 255) → (cond t d o < d + suc k) ⊎ (cond t d o ≡ 255)
    go true e = inl (omega arith)
    go false (inl l) = inl (omega arith)
    go false (inr e) = inr e

pub owner-range : (given : List ℕ) (q : ℕ) → Owner (owner_of 8 0 given q)
owner-range given q = range 8 0 given q

at_least : (k d : ℕ) (given : List ℕ) (q : ℕ) → d + k ≤ 255 → d ≤ owner_of k d given q
unfolding owner_of
at_least zero d given q h = omega arith
at_least (suc k) d given q h = go (ltb q (get_or given d 0)) (at_least k (suc d) given (q - get_or given d 0) (omega arith))
  where
    go : (t : Bool) {o : ℕ} → suc d ≤ o → d ≤ cond t d o
    go true l = omega arith
    go false l = omega arith

pub owner-rises : (k d : ℕ) (given : List ℕ) (q r : ℕ) → d + k ≤ 255 → q ≤ r → owner_of k d given q ≤ owner_of k d given r
unfolding owner_of
owner-rises zero d given q r h l = omega arith
owner-rises (suc k) d given q r h l =
    let n = get_or given d 0 in
    go (ltb q n) refl (ltb r n) refl (at_least k (suc d) given (r - n) (omega arith)) (owner-rises k (suc d) given (q - n) (r - n) (omega arith) (omega arith))
  where
    go : (s : Bool) → ltb q (get_or given d 0) ≡ s → (t : Bool) → ltb r (get_or given d 0) ≡ t → {o p : ℕ} → suc d ≤ p → o ≤ p → cond s d o ≤ cond t d p
    go true x true y a m = omega arith
    go true x false y a m = omega arith
    go false x true y a m = absurd (omega (arith, ltb-false q (get_or given d 0) x, ltb-true r (get_or given d 0) y))
    go false x false y a m = m
