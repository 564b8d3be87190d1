-- The fewest digits that hold a number are the number in decimal. Both drop the last digit and go on with n / 10. Assumes nothing.
use mathlib.Core.Path.{◌≡◌, refl, ap₂}
use Prim.Native.Nat.{ℕ, zero, suc, ◌+◌, ◌-◌, ◌*◌, ◌/◌, ◌%◌, ◌^◌, ◌<◌, ◌≤◌}
use native.Mathlib.Nat.{pow-suc, one-le-pow, pow-le-pow_right, mod-lt, mod-eq_of_lt}
use native.Mathlib.Numerals.{unary_clauses}
use native.Mathlib.Omega.{arith}
use mathlib.Core.List.{List, [], ◌∷◌, ◌++◌}
use borrow.Author.Tests.{lt-ltb, le-ltb, ltb-true, ltb-false}
use lib.Dec.{ltb}
use mathlib.Core.Bool.{Bool, true, false}
use Rattle.io.specs.Digits.{last_digits, hex_digit_ascii, IsDigitCount}
use Rattle.text.specs.Numbers.{spelled, decimal}

glyph-digit : (d : ℕ) → d < 10 → hex_digit_ascii d ≡ 48 + d
glyph-digit d h = rw (lt-ltb d 10 h)

below-ten : (k n : ℕ) → n < 10 → spelled k n ≡ (48 + n) ∷ []
unfolding spelled
below-ten zero n h = refl
below-ten (suc k) n h = rw (lt-ltb n 10 h)

from-ten : (k n : ℕ) → 10 ≤ n → spelled (suc k) n ≡ spelled k (n / 10) ++ ((48 + n % 10) ∷ [])
unfolding spelled
from-ten k n h = rw (le-ltb n 10 h)

-- the same digits are the fewest of n / 10, but for the last
fewer : (j n : ℕ) → IsDigitCount 10 1 n (suc (suc j)) → IsDigitCount 10 1 (n / 10) (suc j)
fewer j n (least, fits, tight) =
    let tall : 10 ^ j * 10 ≤ n = simp unary_clauses at (tight (omega arith)) in
    (omega arith, omega (arith, pow-suc 10 (suc j)), λ _. simp unary_clauses (omega (arith, pow-suc 10 j)))

tens : (j n : ℕ) → IsDigitCount 10 1 n (suc (suc j)) → 10 ≤ n
tens j n (least, fits, tight) =
    let tall : 10 ^ j * 10 ≤ n = simp unary_clauses at (tight (omega arith)) in
    omega (arith, pow-suc 10 j, one-le-pow j 10 (omega arith))

fewest-spelled : (r k n : ℕ) → IsDigitCount 10 1 n r → n ≤ k → last_digits 10 r n ≡ spelled k n
fewest-spelled zero k n (least, fits, tight) h = absurd (omega arith)
fewest-spelled (suc zero) k n (least, fits, tight) h =
    let small : n < 10 = omega (arith, pow-suc 10 0) in
    rw (below-ten k n small, mod-eq_of_lt small, glyph-digit n small)
fewest-spelled (suc (suc j)) zero n f h = absurd (omega (arith, tens j n f))
fewest-spelled (suc (suc j)) (suc k) n f h =
    let t : 10 ≤ n = tens j n f in
    let d : n % 10 < 10 = mod-lt n (omega arith) in
    rw (from-ten k n t)
    (ap₂ (λ (l : List ℕ) (x : ℕ). l ++ (x ∷ [])) (fewest-spelled (suc j) k (n / 10) (fewer j n f) (omega arith)) (glyph-digit (n % 10) d))

pub fewest-decimal : (r n : ℕ) → IsDigitCount 10 1 n r → last_digits 10 r n ≡ decimal n
unfolding decimal
fewest-decimal r n f = fewest-spelled r n n f (omega arith)

-- a number below 2 ^ 64 has at most twenty digits
pub at-most-twenty : (r n : ℕ) → n < 2 ^ 64 → IsDigitCount 10 1 n r → r ≤ 20
at-most-twenty r n h (least, fits, tight) = go (ltb 20 r) refl
  where
    go : (t : Bool) → ltb 20 r ≡ t → r ≤ 20
    go true e =
        let l : 20 < r = ltb-true 20 r e in
        let g : 20 ≤ r - 1 = omega arith in
        let p : 10 ^ 20 ≤ 10 ^ (r - 1) = pow-le-pow_right {n = 10} (omega arith) g in
        let t : 10 ^ (r - 1) ≤ n = tight (omega arith) in
        absurd (omega arith)
    go false e = ltb-false 20 r e
