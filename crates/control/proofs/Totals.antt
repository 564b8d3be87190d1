-- Sums of bits three ways: as a count of ones of a word, as what a differential encoder stores, and as the sum of a list. The ones of a word under a mask are as many as the bits that the mask covers add up to. Assumes nothing.
use mathlib.Core.Path.{◌≡◌, refl, sym, ap, ap₂, ◌∙◌}
use mathlib.Core.List.{List, [], ◌∷◌}
use Prim.Native.Nat.{ℕ, zero, suc, ◌+◌, ◌-◌, ◌*◌, ◌/◌, ◌%◌, ◌^◌, ◌<◌}
use native.Mathlib.Nat.{add-zero, add-suc, pow-suc}
use native.Mathlib.Omega.{arith}
use lib.ListN.{length, get_or}
use lib.Bits.{bit_and, and_high}
use lib.Count.{ones, ones_cat}
use lib.Pow.{pow_pos, high, low}
use Rattle.bits.specs.Bits.{number}
use Rattle.bits.proofs.Numbers.{number_lt}
use Rattle.control.specs.Control.{sum, stored}

-- the first k bits added up
unfoldable pub total : (ℕ → ℕ) → ℕ → ℕ
total f zero = 0
total f (suc k) = total f k + f k

-- ---- a list

total-front : (f : ℕ → ℕ) (k : ℕ) → total f (suc k) ≡ f 0 + total (λ i. f (suc i)) k
unfolding total
total-front f zero = omega arith
total-front f (suc k) = omega (arith, total-front f k)

pub total-list : (l : List ℕ) → total (λ i. get_or l i 0) (length l) ≡ sum l
unfolding total sum
total-list [] = refl
total-list (x ∷ l) = total-front (λ i. get_or (x ∷ l) i 0) (length l) ∙ ap (λ (n : ℕ). x + n) (total-list l)

-- ---- a differential encoder

pub stored-total : (f : ℕ → ℕ) (k : ℕ) → stored f k ≡ total f k % 2
unfolding stored total
stored-total f zero = refl
stored-total f (suc k) = omega (arith, stored-total f k)

-- ---- the ones of a word

bit-ones : (b : ℕ) → b < 2 → ones b ≡ b
unfolding ones
bit-ones zero h = refl
bit-ones (suc zero) h = refl
bit-ones (suc (suc b)) h = absurd (omega arith)

ones-total : (k : ℕ) (f : ℕ → ℕ) → ((i : ℕ) → f i < 2) → ones (number k f) ≡ total f k
unfolding number total
ones-total zero f h = bit-ones 0 (omega arith)
ones-total (suc k) f h = ones_cat 1 (number k f) (f k) (h k) ∙ ap₂ (λ (a b : ℕ). a + b) (ones-total k f h) (bit-ones (f k) (h k))

-- the number of a + n bits: of the first a, and of the others
-- belongs in bits
pub number-split : (a n : ℕ) (f : ℕ → ℕ) → number (a + n) f ≡ number a f * 2 ^ n + number n (λ i. f (a + i))
unfolding number
number-split a zero f = ap (λ (k : ℕ). number k f) (add-zero a) ∙ omega arith
number-split a (suc n) f = rw (add-suc, pow-suc, number-split a n f) (omega arith)

-- n bits that stand behind a bits and in front of b bits
pub ones-under : (a n b : ℕ) (f : ℕ → ℕ) → ((i : ℕ) → f i < 2)
    → ones (bit_and (number (a + n + b) f) (2 ^ (n + b) - 2 ^ b)) ≡ total (λ i. f (a + i)) n
ones-under a n b f h =
    let g : ℕ → ℕ = λ i. f (a + i) in
    let front : number (a + n + b) f / 2 ^ b ≡ number (a + n) f =
    ap (λ (x : ℕ). x / 2 ^ b) (number-split (a + n) b f) ∙ high (number (a + n) f) b (number_lt b _ (λ i _. h (a + n + i)))
    in
    let middle : number (a + n) f % 2 ^ n ≡ number n g =
    ap (λ (x : ℕ). x % 2 ^ n) (number-split a n f) ∙ low (number a f) n (number_lt n g (λ i _. h (a + i)))
    in
    ap ones (and_high (number (a + n + b) f) n b ∙ ap (λ (x : ℕ). x % 2 ^ n * 2 ^ b) front ∙ ap (λ (x : ℕ). x * 2 ^ b) middle ∙ sym (add-zero (number n g * 2 ^ b)))
    ∙ ones_cat b (number n g) 0 (pow_pos b)
    ∙ ap₂ (λ (x y : ℕ). x + y) (ones-total n g (λ i. h (a + i))) (bit-ones 0 (omega arith))
    ∙ add-zero (total g n)
