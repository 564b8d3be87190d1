-- The registers and the windows of a stream of bits. Assumes nothing.
use mathlib.Core.Path.{◌≡◌, sym, ap, ◌∙◌}
use Prim.Native.Nat.{ℕ, zero, suc, ◌+◌, ◌*◌, ◌%◌, ◌^◌, ◌<◌}
use native.Mathlib.Nat.{pow-suc, mul_assoc}
use native.Mathlib.Omega.{arith}
use Rattle.bits.specs.Bits.{number}
use Rattle.bits.proofs.Numbers.{number-cong, number_lt}
use Rattle.trellis.specs.Trellis.{next}

-- six bits of a stream, and seven, from bit j on
unfoldable pub reg : (ℕ → ℕ) → ℕ → ℕ
reg x j = number 6 (λ i. x (j + i))

unfoldable pub win : (ℕ → ℕ) → ℕ → ℕ
win x j = number 7 (λ i. x (j + i))

pub reg-lt : (x : ℕ → ℕ) (j : ℕ) → ((i : ℕ) → i < 6 → x (j + i) < 2) → reg x j < 64
unfolding reg
reg-lt x j h = number_lt 6 (λ i. x (j + i)) h

pub win-reg : (x : ℕ → ℕ) (j : ℕ) → win x j ≡ 2 * reg x j + x (j + 6)
unfolding win reg number
win-reg x j = omega arith

low-six : (f : ℕ → ℕ) → ((i : ℕ) → i < 7 → f i < 2) → number 7 f % 64 ≡ number 6 (λ i. f (suc i))
unfolding number
low-six f h =
    omega (arith, h 0 (omega arith), h 1 (omega arith), h 2 (omega arith), h 3 (omega arith), h 4 (omega arith), h 5 (omega arith), h 6 (omega arith))

pub reg-next : (x : ℕ → ℕ) (j : ℕ) → ((i : ℕ) → i < 7 → x (j + i) < 2) → reg x (suc j) ≡ next (win x j)
unfolding reg win
reg-next x j h = number-cong 6 _ _ (λ i l. ap x (omega arith)) ∙ sym (low-six (λ i. x (j + i)) h)

-- the first bit is the heaviest
pub number-front : (k : ℕ) (f : ℕ → ℕ) → number (suc k) f ≡ f 0 * 2 ^ k + number k (λ i. f (suc i))
unfolding number
number-front zero f = omega arith
number-front (suc k) f =
    let ih : number (suc k) f ≡ f 0 * 2 ^ k + number k (λ i. f (suc i)) = number-front k f in
    let p : f 0 * 2 ^ suc k ≡ f 0 * 2 ^ k * 2 = ap (λ (n : ℕ). f 0 * n) (pow-suc 2 k) ∙ sym (mul_assoc (f 0) (2 ^ k) 2) in
    omega arith
