-- The number that a list of bits writes, field by field. Assumes nothing.
use mathlib.Core.Path.{◌≡◌, refl, sym, ap, ap₂, ◌∙◌}
use mathlib.Core.List.{List, [], ◌∷◌, ◌++◌}
use Prim.Native.Nat.{ℕ, zero, suc, ◌+◌, ◌*◌, ◌%◌, ◌^◌}
use native.Mathlib.Nat.{mod-one, add-mul, mul_assoc}
use native.Mathlib.Omega.{arith}
use native.Mathlib.Numerals.{one-add}
use lib.ListN.{length, get_or, length-append}
use lib.Pow.{pow-add, mod-pow-add}
use Rattle.bits.specs.Bits.{number}
use Rattle.bits.proofs.Numbers.{number-cong}
use Rattle.control.specs.Control.{field}
use Rattle.control.proofs.Totals.{number-split}

unfoldable pub value : List ℕ → ℕ
value [] = 0
value (b ∷ bs) = b * 2 ^ length bs + value bs

pub number-value : (l : List ℕ) → number (length l) (λ i. get_or l i 0) ≡ value l
unfolding value number
number-value [] = refl
number-value (b ∷ bs) =
    ap (λ (n : ℕ). number n (λ i. get_or (b ∷ bs) i 0)) (sym (one-add (length bs)))
    ∙ number-split 1 (length bs) (λ i. get_or (b ∷ bs) i 0)
    ∙ ap₂ (λ (x y : ℕ). x * 2 ^ length bs + y) (omega arith)
    (number-cong (length bs) _ _ (λ i _. ap (λ (n : ℕ). get_or (b ∷ bs) n 0) (one-add i)) ∙ number-value bs)

pub value-append : (a b : List ℕ) → value (a ++ b) ≡ value a * 2 ^ length b + value b
unfolding value
value-append [] b = omega arith
value-append (x ∷ a) b =
    ap₂ (λ (p v : ℕ). x * p + v) (ap (λ (n : ℕ). 2 ^ n) (length-append a b) ∙ pow-add 2 (length a) (length b)) (value-append a b)
    ∙ omega (arith, add-mul (x * 2 ^ length a) (value a) (2 ^ length b), mul_assoc x (2 ^ length a) (2 ^ length b))

pub length-field : (k x : ℕ) → length (field k x) ≡ k
unfolding field
length-field zero x = refl
length-field (suc k) x = ap suc (length-field k x)

-- a field holds its number
pub value-field : (k x : ℕ) → value (field k x) ≡ x % 2 ^ k
unfolding value field
value-field zero x = sym (mod-one x)
value-field (suc k) x =
    rw (length-field k x, value-field k x) (sym (ap (λ (n : ℕ). x % 2 ^ n) (sym (one-add k)) ∙ mod-pow-add x 1 k))

pub number-field : (k x : ℕ) → number k (λ i. get_or (field k x) i 0) ≡ x % 2 ^ k
number-field k x =
    ap (λ (n : ℕ). number n (λ i. get_or (field k x) i 0)) (sym (length-field k x)) ∙ number-value (field k x) ∙ value-field k x
