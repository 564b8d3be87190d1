-- Laws of the digits of a number, and of the number that a stream of bits writes. Assumes nothing.
use mathlib.Core.Path.{◌≡◌, refl, ap, ap₂, ◌∙◌}
use Prim.Native.Nat.{ℕ, zero, suc, ◌+◌, ◌-◌, ◌*◌, ◌/◌, ◌%◌, ◌^◌, ◌<◌}
use native.Mathlib.Nat.{pow-suc, div-div-eq-div-mul, mul_comm}
use native.Mathlib.Decide.{dec_lt}
use native.Mathlib.Omega.{arith}
use lib.Dec.{eqb, eqb→eq}
use Rattle.bits.specs.Bits.{number}
use Rattle.bits.specs.Tests.{all}
use Rattle.bits.proofs.Tests.{all-at}

-- ---- the digits of a number

-- the digit of x that weighs 2 ^ t
unfoldable pub digit : ℕ → ℕ → ℕ
digit x t = x / 2 ^ t % 2

pub digit_lt : (x t : ℕ) → digit x t < 2
unfolding digit
digit_lt x t = omega arith

pub digit-suc : (x t : ℕ) → digit x (suc t) ≡ digit (x / 2) t
unfolding digit
digit-suc x t = rw (pow-suc, mul_comm, ← div-div-eq-div-mul)

-- ---- number

pub number-cong : (k : ℕ) (f g : ℕ → ℕ) → ((i : ℕ) → i < k → f i ≡ g i) → number k f ≡ number k g
unfolding number
number-cong zero f g h = refl
number-cong (suc k) f g h = ap₂ (λ (x y : ℕ). x * 2 + y) (number-cong k f g (λ i l. h i (omega arith))) (h k (omega arith))

pub number_lt : (k : ℕ) (f : ℕ → ℕ) → ((i : ℕ) → i < k → f i < 2) → number k f < 2 ^ k
unfolding number
number_lt zero f h = omega arith
number_lt (suc k) f h =
    let ih : number k f < 2 ^ k = number_lt k f (λ i l. h i (omega arith)) in
    omega (arith, h k (omega arith), pow-suc 2 k)

number-last : (k : ℕ) (f : ℕ → ℕ) → f k < 2 → digit (number (suc k) f) 0 ≡ f k
unfolding number digit
number-last k f h = omega arith

number_up : (k : ℕ) (f : ℕ → ℕ) (t : ℕ) → f k < 2 → digit (number (suc k) f) (suc t) ≡ digit (number k f) t
unfolding number
number_up k f t h =
    let q : (number k f * 2 + f k) / 2 ≡ number k f = omega arith in
    digit-suc _ t ∙ ap (λ (x : ℕ). digit x t) q

pub number-digit : (k : ℕ) (f : ℕ → ℕ) → ((i : ℕ) → i < k → f i < 2) → (i : ℕ) → i < k → digit (number k f) (k - 1 - i) ≡ f i
number-digit zero f h i l = omega arith
number-digit (suc k) f h i l = go (dec_lt i k) (number-digit k f (λ j n. h j (omega arith)) i)
  where
    go : Dec (i < k) → (i < k → digit (number k f) (k - 1 - i) ≡ f i) → digit (number (suc k) f) (suc k - 1 - i) ≡ f i
    go (yes m) ih =
        let z : suc k - 1 - i ≡ suc (k - 1 - i) = omega arith in
        rw z (number_up k f (k - 1 - i) (h k (omega arith)) ∙ ih m)
    go (no m) ih =
        let z : suc k - 1 - i ≡ 0 = omega arith in
        let e : k ≡ i = omega arith in
        rw z (number-last k f (h k (omega arith)) ∙ ap f e)

-- a byte is the number of its digits
pub byte-digits : (x : ℕ) → x < 256 → number 8 (λ k. digit x (7 - k)) ≡ x
unfolding number digit all
byte-digits x h = eqb→eq _ x (all-at 256 (λ x. eqb (number 8 (λ k. digit x (7 - k))) x) tt x h)
