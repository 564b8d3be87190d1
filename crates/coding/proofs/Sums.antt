-- A unit's word is linear in its window: the word of a `^` is the `^` of the words. So it is the `^` of the words of the window's bytes, which an entry of a
-- table holds side by side. Assumes nothing.
use mathlib.Core.Path.{◌≡◌, sym, ap, ap₂, ◌∙◌}
use mathlib.Core.Bool.{Bool, true, false}
use mathlib.Core.List.{List}
use Prim.Native.Nat.{ℕ, zero, suc, ◌+◌, ◌-◌, ◌*◌, ◌/◌, ◌%◌, ◌^◌, ◌<◌}
use native.Mathlib.Nat.{pow-suc, add-zero, zero-mul, zero-add, mod-lt, mul_comm, mul_assoc, add_comm, add-mul, div-add-mod'}
use native.Mathlib.Omega.{arith}
use lib.Bits.{bit_and, bit_xor, and_mask, and_zero_r, xor_shr, xor_mod, xor_self, xor_comm, xor_shifted, xor_block}
use lib.Count.{ones}
use lib.ListN.{get_or}
use lib.Dec.{lit<}
use lib.Pow.{pow-add, pow_pos, shl_lt, shr-shr, shr_mod, mod-mod-pow}
use Rattle.bits.proofs.Numbers.{number-cong}
use Rattle.bits.proofs.Stores.{number-xor}
use Rattle.bits.proofs.Words.{xor_low}
use Rattle.coding.specs.declared.Rate.{Rate}
use Rattle.coding.specs.declared.Rate.TheVariants.{TwoFifths, Half}
use Rattle.coding.specs.Units.{group_size, masks_of, masked, unit_coded, unit_bit, word_of, bytes_of, length_of, downs, ups, placed, Words}
use Rattle.coding.proofs.Windows.{and-ones}
use Rattle.coding.proofs.Masks.{unit_coded-bit, unit_bit-bit}

-- ---- the parity under a mask

strip : (m n : ℕ) → (m % 2 + n % 2) % 2 ≡ (m + n) % 2
strip m n = omega arith

strip-one : (m n : ℕ) → (1 * (m % 2) + n) % 2 ≡ (m + n) % 2
strip-one m n = omega arith

swap-even : (m n k : ℕ) → n % 2 ≡ k % 2 → (m + n) % 2 ≡ (m + k) % 2
swap-even m n k e = omega arith

one-digit : (t a b p q s : ℕ) → t < 2 → s % 2 ≡ (p % 2 + q % 2) % 2 → (t * ((a + b) % 2) + s) % 2 ≡ ((t * a + p) % 2 + (t * b + q) % 2) % 2
one-digit zero a b p q s h e = simp (zero-mul, zero-add) e
one-digit (suc zero) a b p q s h e =
    let order : a + b + (p + q) ≡ 1 * a + p + (1 * b + q) = omega arith in
    strip-one (a + b) s ∙ swap-even (a + b) s (p + q) (e ∙ strip p q) ∙ ap (λ (n : ℕ). n % 2) order ∙ sym (strip (1 * a + p) (1 * b + q))
one-digit (suc (suc t)) a b p q s h e = absurd (omega arith)

parity-xor : (k x y g : ℕ) → g < 2 ^ k → ones (bit_and (bit_xor x y) g) % 2 ≡ (ones (bit_and x g) % 2 + ones (bit_and y g) % 2) % 2
unfolding ones
parity-xor zero x y g h = let z : g ≡ 0 = omega arith in rw (z, and_zero_r, and_zero_r, and_zero_r)
parity-xor (suc k) x y g h =
    let low : bit_xor x y % 2 ≡ (x % 2 + y % 2) % 2 = sym (and_mask (bit_xor x y) 1) ∙ xor_low x y ∙ omega arith in
    let high : bit_xor x y / 2 ≡ bit_xor (x / 2) (y / 2) = xor_shr x y 1 in
    ap (λ (n : ℕ). n % 2) (and-ones (bit_xor x y) g ∙ ap₂ (λ (d w : ℕ). g % 2 * d + ones (bit_and w (g / 2))) low high)
    ∙ one-digit (g % 2) (x % 2) (y % 2) _ _ _ (omega arith) (parity-xor k (x / 2) (y / 2) (g / 2) (omega (arith, pow-suc 2 k)))
    ∙ sym (ap₂ (λ (m n : ℕ). (m % 2 + n % 2) % 2) (and-ones x g) (and-ones y g))

below_power : (n : ℕ) → n < 2 ^ n
below_power zero = omega arith
below_power (suc n) = omega (arith, below_power n, pow-suc 2 n)

module _ (rate : Rate) (x y : ℕ) where
  masked-xor : (k : ℕ) → masked rate (bit_xor x y) k ≡ (masked rate x k + masked rate y k) % 2
  unfolding masked
  masked-xor k = let g : ℕ = get_or (masks_of rate) k 0 in parity-xor g x y g (below_power g)

module _ (rate : Rate) (x y i : ℕ) where
  unit_coded-xor : unit_coded rate (bit_xor x y) i ≡ (unit_coded rate x i + unit_coded rate y i) % 2
  unfolding unit_coded
  unit_coded-xor =
      let s : ℕ = 14 - 2 * (i / group_size rate) in
      let k : ℕ = i % group_size rate in
      ap (λ (w : ℕ). masked rate w k) (ap (λ (w : ℕ). w % 256) (xor_shr x y s) ∙ xor_mod (x / 2 ^ s) (y / 2 ^ s) 8)
      ∙ masked-xor rate (x / 2 ^ s % 256) (y / 2 ^ s % 256) k

  unit_bit-xor : unit_bit rate (bit_xor x y) i ≡ (unit_bit rate x i + unit_bit rate y i) % 2
  unfolding unit_bit
  unit_bit-xor =
      let s : ℕ = (7 - i / 2) * group_size rate in
      let k : ℕ = group_size rate + i % 2 in
      ap (λ (w : ℕ). masked rate w k) (xor_shr x y s) ∙ masked-xor rate (x / 2 ^ s) (y / 2 ^ s) k

-- ---- the word

xor-shl : (x y k : ℕ) → bit_xor x y * 2 ^ k ≡ bit_xor (x * 2 ^ k) (y * 2 ^ k)
xor-shl x y k =
    sym
    (ap₂ bit_xor (sym (add-zero (x * 2 ^ k))) (sym (add-zero (y * 2 ^ k)))
    ∙ xor_block k x y 0 0 (pow_pos k) (pow_pos k)
    ∙ ap (λ (n : ℕ). bit_xor x y * 2 ^ k + n) (xor_self 0)
    ∙ add-zero (bit_xor x y * 2 ^ k))

module _ (rate : Rate) where
  word-xor : (inverse : Bool) (x y : ℕ) → word_of rate inverse (bit_xor x y) ≡ bit_xor (word_of rate inverse x) (word_of rate inverse y)
  unfolding word_of
  word-xor true x y =
      number-cong 16 _ _ (λ i _. unit_bit-xor rate x y i) ∙ sym (number-xor 16 (unit_bit rate x) (unit_bit rate y) (unit_bit-bit rate x) (unit_bit-bit rate y))
  word-xor false x y =
      number-cong _ _ _ (λ i _. unit_coded-xor rate x y i)
      ∙ sym (number-xor (8 * group_size rate) (unit_coded rate x) (unit_coded rate y) (unit_coded-bit rate x) (unit_coded-bit rate y))

  module _ (inverse : Bool) where
    pub word-zero : (from : ℕ) → word_of rate inverse (0 * 2 ^ from) ≡ 0
    word-zero from =
        ap (word_of rate inverse) (zero-mul (2 ^ from) ∙ sym (xor_self 0)) ∙ word-xor inverse 0 0 ∙ xor_self (word_of rate inverse 0)

    -- some digits above the k lowest
    word-join : (a k b : ℕ) → b < 2 ^ k → bit_xor (word_of rate inverse (a * 2 ^ k)) (word_of rate inverse b) ≡ word_of rate inverse (a * 2 ^ k + b)
    word-join a k b h = sym (word-xor inverse (a * 2 ^ k) b) ∙ ap (word_of rate inverse) (xor_shifted a k b h)

    -- one more step of a table of the words of bytes
    pub word-double : (from e r one : ℕ) → r < 2 ^ e → one ≡ word_of rate inverse (2 ^ (from + e))
        → bit_xor (word_of rate inverse (r * 2 ^ from)) one ≡ word_of rate inverse ((2 ^ e + r) * 2 ^ from)
    word-double from e r one h d =
        xor_comm _ one
        ∙ ap (λ (w : ℕ). bit_xor w (word_of rate inverse (r * 2 ^ from))) (d ∙ ap (word_of rate inverse) (omega arith))
        ∙ word-join 1 (from + e) (r * 2 ^ from) (rw (add_comm from e) (shl_lt e from h))
        ∙ ap (word_of rate inverse) (omega (arith, add-mul (2 ^ e) r (2 ^ from), pow-add 2 from e, mul_comm (2 ^ from) (2 ^ e)))

    -- the highest byte of x, and one byte more
    pub word_first : (x k s : ℕ) → x < 2 ^ (8 + k) → s ≡ word_of rate inverse (x / 2 ^ k % 256 * 2 ^ k) → s ≡ word_of rate inverse (x / 2 ^ k * 2 ^ k)
    word_first x k s h e = e ∙ ap (λ (q : ℕ). word_of rate inverse (q * 2 ^ k)) (shr_mod 8 k h)

    pub word_more : (x k s t : ℕ) → s ≡ word_of rate inverse (x / 2 ^ (k + 8) * 2 ^ (k + 8)) → t ≡ word_of rate inverse (x / 2 ^ k % 256 * 2 ^ k)
        → bit_xor s t ≡ word_of rate inverse (x / 2 ^ k * 2 ^ k)
    word_more x k s t p d =
        let q : ℕ = x / 2 ^ k in
        let low : q % 256 * 2 ^ k < 2 ^ (k + 8) = rw (add_comm k 8) (shl_lt 8 k (mod-lt q (lit< tt))) in
        let high : x / 2 ^ (k + 8) ≡ q / 256 = sym (shr-shr x k 8) in
        let whole : q / 256 * 256 + q % 256 ≡ q = div-add-mod' q 256 in
        let split : x / 2 ^ (k + 8) * 2 ^ (k + 8) + q % 256 * 2 ^ k ≡ q * 2 ^ k =
        ap₂ (λ (u v : ℕ). u * v + q % 256 * 2 ^ k) high (pow-add 2 k 8 ∙ mul_comm (2 ^ k) 256)
        ∙ ap (λ (u : ℕ). u + q % 256 * 2 ^ k) (sym (mul_assoc (q / 256) 256 (2 ^ k)))
        ∙ sym (add-mul (q / 256 * 256) (q % 256) (2 ^ k))
        ∙ ap (λ (u : ℕ). u * 2 ^ k) whole
        in
        ap₂ bit_xor p d ∙ word-join (x / 2 ^ (k + 8)) (k + 8) (q % 256 * 2 ^ k) low ∙ ap (word_of rate inverse) split

    -- and all of it
    pub word-all : (x s : ℕ) → s ≡ word_of rate inverse (x / 2 ^ 0 * 2 ^ 0) → s ≡ word_of rate inverse x
    word-all x s e = e ∙ ap (word_of rate inverse) (omega arith)

    -- ---- an entry of a table, at place k

    pub placed-xor : (k x y : ℕ) → placed rate inverse k (bit_xor x y) ≡ bit_xor (placed rate inverse k x) (placed rate inverse k y)
    unfolding placed
    placed-xor k x y =
        let d : ℕ = get_or (downs rate inverse) k 0 in
        let u : ℕ = get_or (ups rate inverse) k 0 in
        let w : ℕ = length_of rate inverse in
        ap (λ (z : ℕ). z * 2 ^ u % 2 ^ w) (xor_shr x y d)
        ∙ ap (λ (z : ℕ). z % 2 ^ w) (xor-shl (x / 2 ^ d) (y / 2 ^ d) u)
        ∙ xor_mod (x / 2 ^ d * 2 ^ u) (y / 2 ^ d * 2 ^ u) w

    pub placed-zero : (k : ℕ) → placed rate inverse k 0 ≡ 0
    placed-zero k = ap (placed rate inverse k) (sym (xor_self 0)) ∙ placed-xor k 0 0 ∙ xor_self (placed rate inverse k 0)

    -- a table read at a byte of x
    pub word_at : {table : List ℕ} (x k b : ℕ) → Words rate inverse table → k < bytes_of inverse → (b ≡ x / 2 ^ (8 * k) % 256) × (b < 256)
        → placed rate inverse k (get_or table b 0) ≡ word_of rate inverse (x / 2 ^ (8 * k) % 256 * 2 ^ (8 * k))
    word_at x k b w l h = w.word k b l h.1 ∙ ap (λ (i : ℕ). word_of rate inverse (i * 2 ^ (8 * k))) h.0

    -- the sum is cut to a word's digits at its end
    pub word_next : (x k s t : ℕ) → s % 2 ^ length_of rate inverse ≡ word_of rate inverse (x / 2 ^ (k + 8) * 2 ^ (k + 8))
        → t % 2 ^ length_of rate inverse ≡ word_of rate inverse (x / 2 ^ k % 256 * 2 ^ k)
        → bit_xor s t % 2 ^ length_of rate inverse ≡ word_of rate inverse (x / 2 ^ k * 2 ^ k)
    word_next x k s t p d = xor_mod s t (length_of rate inverse) ∙ word_more x k (s % 2 ^ length_of rate inverse) (t % 2 ^ length_of rate inverse) p d

-- ---- a word shifted in 64 digits, cut to a unit's

module _ (rate : Rate) (t : ℕ) where
  pub place-0 : t / 2 ^ 60 % 2 ^ 16 ≡ placed rate true 0 t
  unfolding placed
  place-0 = ap (λ (n : ℕ). n % 2 ^ 16) (omega arith)

  pub place-1 : t % 2 ^ 16 ≡ placed rate true 1 t
  unfolding placed
  place-1 = ap (λ (n : ℕ). n % 2 ^ 16) (omega arith)

  pub place-2 : t / 2 ^ 16 % 2 ^ 16 ≡ placed rate true 2 t
  unfolding placed
  place-2 = ap (λ (n : ℕ). n % 2 ^ 16) (omega arith)

  pub place-3 : t / 2 ^ 36 * 2 ^ 4 % 2 ^ 64 % 2 ^ 16 ≡ placed rate true 3 t
  unfolding placed
  place-3 = mod-mod-pow (t / 2 ^ 36 * 2 ^ 4) 48 16

  pub place-4 : t / 2 ^ 48 * 2 ^ 8 % 2 ^ 64 % 2 ^ 16 ≡ placed rate true 4 t
  unfolding placed
  place-4 = mod-mod-pow (t / 2 ^ 48 * 2 ^ 8) 48 16

  pub place-5 : t / 2 ^ 56 * 2 ^ 12 % 2 ^ 64 % 2 ^ 16 ≡ placed rate true 5 t
  unfolding placed
  place-5 = mod-mod-pow (t / 2 ^ 56 * 2 ^ 12) 48 16

  pub place-6 : t / 2 ^ 32 * 2 ^ 14 % 2 ^ 64 % 2 ^ 16 ≡ placed rate true 6 t
  unfolding placed
  place-6 = mod-mod-pow (t / 2 ^ 32 * 2 ^ 14) 48 16

cut : (rate : Rate) (n : ℕ) → n % 2 ^ 64 % 2 ^ (8 * group_size rate) ≡ n % 2 ^ (8 * group_size rate)
cut TwoFifths n = mod-mod-pow n 24 40
cut Half n = mod-mod-pow n 32 32

over-one : (n : ℕ) → n ≡ n / 2 ^ 0
over-one n = omega arith

module _ (rate : Rate) (t : ℕ) where
  coded-0 : t / 2 ^ (3 * group_size rate) % 2 ^ (8 * group_size rate) ≡ placed rate false 0 t
  unfolding placed
  coded-0 = ap (λ (n : ℕ). n % 2 ^ (8 * group_size rate)) (omega arith)

  coded-1 : t * 2 ^ group_size rate % 2 ^ 64 % 2 ^ (8 * group_size rate) ≡ placed rate false 1 t
  unfolding placed
  coded-1 = cut rate _ ∙ ap (λ (n : ℕ). n * 2 ^ group_size rate % 2 ^ (8 * group_size rate)) (over-one t)

  coded-2 : t * 2 ^ (5 * group_size rate) % 2 ^ 64 % 2 ^ (8 * group_size rate) ≡ placed rate false 2 t
  unfolding placed
  coded-2 = cut rate _ ∙ ap (λ (n : ℕ). n * 2 ^ (5 * group_size rate) % 2 ^ (8 * group_size rate)) (over-one t)

-- the coded bits of a unit from the entries of its two bytes and of the one before
pub coded-sum : (rate : Rate) (x a b c : ℕ) → x < 2 ^ 24
    → placed rate false 0 a ≡ word_of rate false (x / 2 ^ 0 % 256 * 2 ^ 0) → placed rate false 1 b ≡ word_of rate false (x / 2 ^ 8 % 256 * 2 ^ 8)
    → placed rate false 2 c ≡ word_of rate false (x / 2 ^ 16 % 256 * 2 ^ 16)
    → bit_xor (bit_xor (c * 2 ^ (5 * group_size rate) % 2 ^ 64) (b * 2 ^ group_size rate % 2 ^ 64)) (a / 2 ^ (3 * group_size rate)) % 2 ^ (8 * group_size rate)
    ≡ word_of rate false x
coded-sum rate x a b c h p q r =
    let s₁ = word_first rate false x 16 _ h (coded-2 rate c ∙ r) in
    let s₂ = word_next rate false x 8 _ _ s₁ (coded-1 rate b ∙ q) in
    word-all rate false x _ (word_next rate false x 0 _ _ s₂ (coded-0 rate a ∙ p))
