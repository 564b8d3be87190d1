-- The number that k bits of a stream write, cut and joined: what shifts, remainders and `|` do to a word of bits. Assumes nothing.
-- belongs in bits
use mathlib.Core.Path.{◌≡◌, sym, ap, ◌∙◌}
use Prim.Native.Nat.{ℕ, zero, suc, ◌+◌, ◌-◌, ◌*◌, ◌/◌, ◌%◌, ◌^◌, ◌<◌, ◌≤◌}
use native.Mathlib.Nat.{add-zero, add-suc, pow-suc, mul_assoc}
use native.Mathlib.Omega.{arith}
use lib.Bits.{bit_or, or_shifted}
use lib.Pow.{shl_exact, shr-shr, high, low}
use Rattle.bits.specs.Bits.{number}
use Rattle.bits.proofs.Numbers.{digit, number_lt, number-digit}

-- the bits of a number are known from it
pub number_same : (k : ℕ) (f h : ℕ → ℕ) → ((i : ℕ) → f i < 2) → ((i : ℕ) → h i < 2) → number k f ≡ number k h → (i : ℕ) → i < k → f i ≡ h i
number_same k f h d b e i l =
    sym (number-digit k f (λ j _. d j) i l) ∙ ap (λ (x : ℕ). digit x (k - 1 - i)) e ∙ number-digit k h (λ j _. b j) i l

-- a bits, and b more
pub number-join : (a b : ℕ) (f : ℕ → ℕ) → number (a + b) f ≡ number a f * 2 ^ b + number b (λ i. f (a + i))
unfolding number
number-join a zero f = rw add-zero (omega arith)
number-join a (suc b) f =
    rw add-suc
    (omega (arith, number-join a b f, pow-suc 2 b, mul_assoc (number a f) (2 ^ b) 2, ap (λ (k : ℕ). number a f * k) (pow-suc 2 b)))

module _ (f : ℕ → ℕ) (d : (i : ℕ) → f i < 2) where
  -- the b bits at the end are pushed into a word of w bits
  pub number_push : (w a b x y : ℕ) → a + b ≤ w → x ≡ number a f → y ≡ number b (λ i. f (a + i)) → bit_or (x * 2 ^ b % 2 ^ w) y ≡ number (a + b) f
  number_push w a b x y h p q =
      rw (p, q)
      (ap (λ (k : ℕ). bit_or k (number b (λ i. f (a + i)))) (shl_exact a b w (number_lt a f (λ i l. d i)) h)
      ∙ or_shifted (number a f) b (number b (λ i. f (a + i))) (number_lt b _ (λ i l. d (a + i)))
      ∙ sym (number-join a b f))

  -- m bits from place a on, of k
  pub number-slice : (k a m b : ℕ) → k ≡ a + m + b → number k f / 2 ^ b % 2 ^ m ≡ number m (λ i. f (a + i))
  number-slice k a m b e =
      ap (λ (x : ℕ). x / 2 ^ b % 2 ^ m) (ap (λ (n : ℕ). number n f) e ∙ number-join (a + m) b f)
      ∙ ap (λ (x : ℕ). x % 2 ^ m) (high (number (a + m) f) b (number_lt b _ (λ i l. d (a + m + i))) ∙ number-join a m f)
      ∙ low (number a f) m (number_lt m _ (λ i l. d (a + i)))

  -- digit e of a word that is shifted by s
  pub number-shifted : (k s e : ℕ) → s + e < k → number k f / 2 ^ s / 2 ^ e % 2 ≡ f (k - 1 - (s + e))
  unfolding digit
  number-shifted k s e h =
      let z : k - 1 - (k - 1 - (s + e)) ≡ s + e = omega arith in
      ap (λ (x : ℕ). x % 2) (shr-shr (number k f) s e ∙ ap (λ (t : ℕ). number k f / 2 ^ t) (sym z))
      ∙ number-digit k f (λ i l. d i) (k - 1 - (s + e)) (omega arith)
