-- The sum of seven terms, as the code adds them up. Assumes nothing.
use mathlib.Core.Path.{◌≡◌, refl}
use Prim.Native.Nat.{ℕ, zero, suc, ◌+◌, ◌*◌, ◌<◌}
use native.Mathlib.Nat.{zero-add}
use native.Mathlib.Numerals.{add-one}
use native.Mathlib.Omega.{arith}

unfoldable pub added : (ℕ → ℕ) → ℕ → ℕ
added t zero = 0
added t (suc k) = added t k + t k

pub added_none : (t : ℕ → ℕ) → 0 ≡ added t 0
unfolding added
added_none t = refl

pub added_more : (t : ℕ → ℕ) (k s x : ℕ) → s ≡ added t k → x ≡ t k → s + x ≡ added t (k + 1)
unfolding added
added_more t k s x e f = rw (add-one, e, f)

pub added-seven : (t : ℕ → ℕ) → added t 7 ≡ t 0 + t 1 + t 2 + t 3 + t 4 + t 5 + t 6
unfolding added
added-seven t = rw (zero-add (t 0))

-- a term that the generator takes, and one that it does not
pub one_of : (t x : ℕ) → t ≡ 1 → x ≡ t * x
one_of t x e = rw e (omega arith)

pub none_of : (t x : ℕ) → t < 2 → (t ≡ 1 → ⊥) → 0 ≡ t * x
none_of t x l n = let e : t ≡ 0 = omega arith in rw e (omega arith)
