-- Buffers of zeros. Assumes nothing.
use Prim.Native.Nat.{ℕ, zero, suc, ◌≤◌}
use mathlib.Core.Path.{◌≡◌, refl, ap, ◌∙◌}
use mathlib.Core.List.{List, ◌∷◌}
use native.Mathlib.Nat.{not-suc-le-zero, le_of_suc-le-suc}
use lib.ListN.{take, replicate}

take-replicate : (n m : ℕ) → n ≤ m → take n (replicate m 0) ≡ replicate {A = ℕ} n 0
take-replicate zero m h = refl
take-replicate (suc n) zero h = absurd (not-suc-le-zero h)
take-replicate (suc n) (suc m) h = ap (λ (l : List ℕ). 0 ∷ l) (take-replicate n m (le_of_suc-le-suc h))

-- the first k of m zeros
pub zeros_of : (n m k : ℕ) → n ≡ k → n ≤ m → take n (replicate m 0) ≡ replicate {A = ℕ} k 0
zeros_of n m k e h = take-replicate n m h ∙ ap (λ (j : ℕ). replicate j 0) e
