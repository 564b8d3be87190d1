-- Digits walked from the first: whether they are a number of at most so many digits, and what they are worth. Assumes nothing.
use Rattle.std.proofs.Common.{◌≡◌, ℕ, suc, ◌+◌, ◌-◌, ◌*◌, ◌^◌, ◌<◌, ◌≤◌, Bool, true, false, not, ◌&&◌, eqb, leb, List, [], ◌∷◌, length, get_or, drop, sym, refl, ap, ◌∙◌, subst, true≢false, mul-le-mul_right, mul_assoc, add-mul, pow-suc, add-one, arith, pow-add, length-drop, drop_of_length-le, drop-cons, leb-true}
use native.Mathlib.Nat.{pow-le-pow_right}
use Rattle.std.proofs.Math.Nat.{mul-lt-mul_of_pos_right}
use Rattle.std.proofs.Math.Dec.{eqb-suc-zero}
use Rattle.text.specs.Numbers.{digits_alone, is_digit, is_number, value}
use Rattle.scales.specs.Scales.{is_short}

pub both : (a b : Bool) → (a && b) ≡ true → (a ≡ true) × (b ≡ true)
both true b h = (refl, h)
both false b h = absurd (true≢false (sym h))

-- ---- a byte is below the digits, above them or one of them

module _ (b : ℕ) where
  digit-bounds : is_digit b ≡ true → (48 ≤ b) × (b ≤ 57)
  unfolding is_digit
  digit-bounds h = (leb-true 48 b (both (leb 48 b) (leb b 57) h).0, leb-true b 57 (both (leb 48 b) (leb b 57) h).1)

-- ---- a number of at most so many digits

pub number_is : (text : List ℕ) → is_number text ≡ (not (eqb (length text) 0) && digits_alone text)
unfolding is_number
number_is [] = refl
number_is (b ∷ text) = rw (eqb-suc-zero (length text))

module _ (most : ℕ) where
  alone : (text : List ℕ) → is_number text ≡ true → digits_alone text ≡ true
  unfolding is_number
  alone [] h = absurd (true≢false (sym h))
  alone (b ∷ text) h = h

  pub short-digits : (text : List ℕ) → is_short most text ≡ true → (digits_alone text ≡ true) × (length text ≤ most)
  unfolding is_short
  short-digits text h =
      let t = both (is_number text) (leb (length text) most) h in
      (alone text t.0, leb-true (length text) most t.1)

-- ---- the digits from place i on

module _ (text : List ℕ) (i : ℕ) where
  pub digits_at : i < length text → digits_alone (drop i text) ≡ (is_digit (get_or text i 0) && digits_alone (drop (i + 1) text))
  unfolding digits_alone
  digits_at h =
      ap digits_alone (drop-cons text i 0 h) ∙ ap (λ (k : ℕ). is_digit (get_or text i 0) && digits_alone (drop k text)) (sym (add-one i))

  pub digits_end : length text ≤ i → true ≡ digits_alone (drop i text)
  unfolding digits_alone
  digits_end h = sym (ap digits_alone (drop_of_length-le text {i = i} h))

  module _ (h : i < length text) (d : digits_alone (drop i text) ≡ true) where
    parts : (is_digit (get_or text i 0) ≡ true) × (digits_alone (drop (i + 1) text) ≡ true)
    parts = both (is_digit (get_or text i 0)) (digits_alone (drop (i + 1) text)) (sym (digits_at h) ∙ d)

    pub digit-here : (48 ≤ get_or text i 0) × (get_or text i 0 ≤ 57)
    digit-here = digit-bounds (get_or text i 0) parts.0

    pub digits-rest : digits_alone (drop (i + 1) text) ≡ true
    digits-rest = parts.1

-- ---- what they are worth

pub below_power : (n i : ℕ) → n < 10 ^ i → i < 16 → n < 10 ^ 15
below_power n i h l = let p : 10 ^ i ≤ 10 ^ 15 = pow-le-pow_right {n = 10} (omega arith) {i = i} {j = 15} (omega arith) in omega arith

pub power-more : (n d i : ℕ) → n < 10 ^ i → d ≤ 9 → 10 * n + d < 10 ^ (i + 1)
power-more n d i h l = rw (add-one i, pow-suc) (omega arith)

moved : (n d p v : ℕ) → n * (p * 10) + (d * p + v) ≡ (10 * n + d) * p + v
moved n d p v = omega (arith, add-mul (10 * n) d p, mul_assoc 10 n p, mul_assoc n p 10)

module _ (text : List ℕ) (n i : ℕ) (h : i < length text) where
  value-opened : value (drop i text) ≡ (get_or text i 0 - 48) * 10 ^ (length text - (i + 1)) + value (drop (i + 1) text)
  unfolding value
  value-opened =
      let k : length (drop (i + 1) text) ≡ length text - (i + 1) = length-drop (i + 1) text in
      ap value (drop-cons text i 0 h)
      ∙ ap (λ (j : ℕ). (get_or text i 0 - 48) * 10 ^ length (drop j text) + value (drop j text)) (sym (add-one i))
      ∙ ap (λ (j : ℕ). (get_or text i 0 - 48) * 10 ^ j + value (drop (i + 1) text)) k

  pub value-next : (v : ℕ) → v ≡ n * 10 ^ (length text - i) + value (drop i text)
      → v ≡ (10 * n + (get_or text i 0 - 48)) * 10 ^ (length text - (i + 1)) + value (drop (i + 1) text)
  value-next v e =
      let k = length text - (i + 1) in
      let j : length text - i ≡ suc k = omega arith in
      let p : 10 ^ (length text - i) ≡ 10 ^ k * 10 = ap (λ (m : ℕ). 10 ^ m) j ∙ pow-suc 10 k in
      e ∙ ap (λ (m : ℕ). n * m + value (drop i text)) p ∙ ap (λ (m : ℕ). n * (10 ^ k * 10) + m) value-opened
      ∙ moved n (get_or text i 0 - 48) (10 ^ k) (value (drop (i + 1) text))

pub value-end : (text : List ℕ) (n i : ℕ) → length text ≤ i → (v : ℕ) → v ≡ n * 10 ^ (length text - i) + value (drop i text) → n ≡ v
unfolding value
value-end text n i h v e =
    let z : length text - i ≡ 0 = omega arith in
    sym (e ∙ ap (λ (l : List ℕ). n * 10 ^ (length text - i) + value l) (drop_of_length-le text {i = i} h)
    ∙ ap (λ (m : ℕ). n * 10 ^ m + 0) z ∙ omega arith)

pub value-start : (text : List ℕ) → value text ≡ 0 * 10 ^ (length text - 0) + value (drop 0 text)
value-start text = omega arith

-- k digits are worth less than 10^k
pub value-below : (text : List ℕ) → digits_alone text ≡ true → value text < 10 ^ length text
unfolding digits_alone value
value-below [] h = omega arith
value-below (b ∷ text) h =
    let t = both (is_digit b) (digits_alone text) h in
    let w = digit-bounds b t.0 in
    let m : (b - 48) * 10 ^ length text ≤ 9 * 10 ^ length text = mul-le-mul_right (10 ^ length text) (omega arith) in
    rw (pow-suc) (omega (arith, value-below text t.1, m))

-- ---- zeros behind them

module _ (number digits zeros : ℕ) (z : digits + zeros ≤ 16) (h : number < 10 ^ digits) where
  pub padded_below : number * 10 ^ zeros < 10 ^ 16
  padded_below =
      let p : 10 ^ 0 ≤ 10 ^ zeros = pow-le-pow_right {n = 10} (omega arith) {i = 0} {j = zeros} (omega arith) in
      let m : number * 10 ^ zeros < 10 ^ digits * 10 ^ zeros = mul-lt-mul_of_pos_right h (omega arith) in
      let n : 10 ^ (digits + zeros) ≤ 10 ^ 16 = pow-le-pow_right {n = 10} (omega arith) {i = digits + zeros} {j = 16} z in
      omega (arith, n, subst (λ (n : ℕ). number * 10 ^ zeros < n) (sym (pow-add 10 digits zeros)) m)
