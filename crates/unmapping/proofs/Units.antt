-- A unit times a scale, as IEEE 754 multiplies, is the scale or its negation: nothing is rounded. Assumes nothing.
use mathlib.Core.Path.{◌≡◌, refl, sym, ap, ap₂, subst, ◌∙◌}
use mathlib.Core.Bool.{Bool, true, false, cond, not, ◌&&◌, true≢false}
use Prim.Native.Nat.{ℕ, zero, suc, ◌+◌, ◌-◌, ◌*◌, ◌/◌, ◌%◌, ◌^◌, ◌<◌, ◌≤◌}
use native.Mathlib.Nat.{le_of_suc-le-suc, lt_irrefl, lt_of_lt_of_le, lt_of_not-le, mul_assoc, mul-lt-mul_of_pos_right, mul-one, mul_right_comm, one-mul, sub-add_cancel, zero-mul}
use native.Mathlib.Omega.{arith}
use borrow.Author.Tests.{ltb-true}
use lib.Dec.{T, eqb, leb, ltb, leb→le, ltb→lt}
use lib.IntN.{ℤ, pos, negsuc}
use lib.Pow.{pow-add, pow-lt, pow_mono, pow_pos, shl_lt}
use lib.Ieee.{Float, Format, binary32, nan, inf, fin, prec, emax, low, hid, top, up, down, size, unlike, fits, lt, mul, neg, round, of_bits, to_bits}
use lib.Ieee.Bits.{of_bits-to_bits}
use lib.Ieee.Exact.{HasValue, round_exact}
use lib.Ieee.Fits.{and_l, and_r, down_pos, reach, round-fits}
use lib.Ieee.Nearest.{div_same}
use Rattle.points.specs.Points.{part, unit, usable, zero_part}
use Rattle.unmapping.proofs.Signs.{above_zero, finite, single}

-- ---- a value that fits is written in one way

pattern : (f : Format) → Bool → ℕ → ℕ
pattern f s n = cond s (top f) 0 + (size n - prec f) * hid f + n / 2 ^ (size n - prec f)

to_bits_is : (f : Format) (s : Bool) (m : ℕ) (e : ℤ) → to_bits f (fin s m e) ≡ pattern f s (m * up e * 2 ^ low f / down e)
unfolding to_bits pattern
to_bits_is f s m e = refl

bits-of : (f : Format) (x : Float) (s : Bool) (a c : ℕ) → 0 < c → HasValue x s a c → to_bits f x ≡ pattern f s (a * 2 ^ low f / c)
bits-of f nan s a c p v = absurd v
bits-of f (inf t) s a c p v = absurd v
bits-of f (fin t m e) s a c p v =
    to_bits_is f t m e
    ∙ ap₂ (pattern f) v.0
    (div_same (m * up e * 2 ^ low f) (down e) (a * 2 ^ low f) c (down_pos e) p
    (mul_right_comm (m * up e) (2 ^ low f) c ∙ ap (λ (x : ℕ). x * 2 ^ low f) v.1 ∙ mul_right_comm a (down e) (2 ^ low f)))

same-value : (f : Format) (x y : Float) (s : Bool) (a c : ℕ) → 0 < c → T (fits f x) → T (fits f y) → HasValue x s a c → HasValue y s a c → x ≡ y
same-value f x y s a c p g h v w =
    sym (of_bits-to_bits f x g) ∙ ap (of_bits f) (bits-of f x s a c p v ∙ sym (bits-of f y s a c p w)) ∙ of_bits-to_bits f y h

-- ---- rounding what fits changes nothing

module _ (f : Format) (s : Bool) (m : ℕ) (e : ℤ) (t : T (fits f (fin s (suc m) e))) where
  three : T ((eqb (suc m % 2) 1 && ltb (suc m) (2 ^ prec f) && leb (down e) (2 ^ low f)) && ltb (suc m * up e) (2 ^ suc (emax f) * down e))
  unfolding fits
  three = t

  two : T (eqb (suc m % 2) 1 && ltb (suc m) (2 ^ prec f) && leb (down e) (2 ^ low f))
  two = and_l (eqb (suc m % 2) 1 && ltb (suc m) (2 ^ prec f) && leb (down e) (2 ^ low f)) (ltb (suc m * up e) (2 ^ suc (emax f) * down e)) three

  small : suc m < 2 ^ prec f
  small = ltb→lt (suc m) (2 ^ prec f) (and_r (eqb (suc m % 2) 1) (ltb (suc m) (2 ^ prec f)) (and_l (eqb (suc m % 2) 1 && ltb (suc m) (2 ^ prec f)) (leb (down e) (2 ^ low f)) two))

  deep : down e ≤ 2 ^ low f
  deep = leb→le (down e) (2 ^ low f) (and_r (eqb (suc m % 2) 1 && ltb (suc m) (2 ^ prec f)) (leb (down e) (2 ^ low f)) two)

  below : suc m * up e < 2 ^ suc (emax f) * down e
  below = ltb→lt (suc m * up e) (2 ^ suc (emax f) * down e) (and_r (eqb (suc m % 2) 1 && ltb (suc m) (2 ^ prec f) && leb (down e) (2 ^ low f)) (ltb (suc m * up e) (2 ^ suc (emax f) * down e)) three)

power_le : (a l : ℕ) → 2 ^ a ≤ 2 ^ l → a ≤ l
power_le a l h = le_of_suc-le-suc (lt_of_not-le (λ (g : suc l ≤ a). lt_irrefl (2 ^ l) (lt_of_lt_of_le (pow-lt g) h)))

one-pos : 0 < 1
one-pos = omega arith

rounded-value : (f : Format) (s : Bool) (m : ℕ) (e : ℤ) → T (fits f (fin s (suc m) e)) → HasValue (round f s (suc m * up e) (down e)) s (suc m * up e) (down e)
rounded-value f s m (pos k) t =
    let l = low f in
    let raised : suc m * 2 ^ k * 2 ^ l ≡ suc m * 2 ^ (k + l) = mul_assoc (suc m) (2 ^ k) (2 ^ l) ∙ ap (λ (x : ℕ). suc m * x) (sym (pow-add 2 k l)) in
    let fine : suc m * 2 ^ (k + l) < 2 ^ (l + suc (emax f)) =
    subst (λ (x : ℕ). x < 2 ^ (l + suc (emax f))) raised
    (subst (λ (x : ℕ). suc m * 2 ^ k * 2 ^ l < x) (sym (pow-add 2 (suc (emax f)) l) ∙ ap (λ (x : ℕ). 2 ^ x) (swap (emax f) l))
    (mul-lt-mul_of_pos_right (subst (λ (x : ℕ). suc m * 2 ^ k < x) (mul-one (2 ^ suc (emax f))) (below f s m (pos k) t)) (pow_pos l))) in
    round_exact f s (suc m * 2 ^ k) 1 (suc m) (k + l) one-pos (small f s m (pos k) t) fine (raised ∙ sym (mul-one (suc m * 2 ^ (k + l))))
  where
    swap : (a b : ℕ) → suc a + b ≡ b + suc a
    swap a b = omega arith
rounded-value f s m (negsuc k) t =
    let l = low f in
    let h : suc k ≤ l = power_le (suc k) l (deep f s m (negsuc k) t) in
    let fine : suc m * 2 ^ (l - suc k) < 2 ^ (l + suc (emax f)) =
    lt_of_lt_of_le (shl_lt (prec f) (l - suc k) (small f s m (negsuc k) t)) (pow_mono (within (prec f) l k (emax f) (reach f))) in
    round_exact f s (suc m * 1) (2 ^ suc k) (suc m) (l - suc k) (pow_pos (suc k)) (small f s m (negsuc k) t) fine
    (ap (λ (x : ℕ). x * 2 ^ l) (mul-one (suc m)) ∙ ap (λ (x : ℕ). suc m * 2 ^ x) (sym (sub-add_cancel h)) ∙ ap (λ (x : ℕ). suc m * x) (pow-add 2 (l - suc k) (suc k)) ∙ sym (mul_assoc (suc m) (2 ^ (l - suc k)) (2 ^ suc k)))
  where
    within : (p l k e : ℕ) → p ≤ suc e → p + (l - suc k) ≤ l + suc e
    within p l k e r = omega arith

exact : (f : Format) (s : Bool) (m : ℕ) (e : ℤ) → T (fits f (fin s (suc m) e)) → round f s (suc m * up e) (down e) ≡ fin s (suc m) e
exact f s m e t =
    same-value f (round f s (suc m * up e) (down e)) (fin s (suc m) e) s (suc m * up e) (down e) (down_pos e)
    (round-fits f s (suc m * up e) (down e)) t (rounded-value f s m e t) (refl, refl)

-- ---- a unit

sign-free : (f : Format) (s u : Bool) (m : ℕ) (e : ℤ) → T (fits f (fin s (suc m) e)) → T (fits f (fin u (suc m) e))
unfolding fits
sign-free f s u m e t = t

unit-times : (f : Format) (s u : Bool) (m : ℕ) (e : ℤ) → T (fits f (fin u (suc m) e)) → mul f (fin s 1 (pos 0)) (fin u (suc m) e) ≡ fin (unlike s u) (suc m) e
unfolding mul
unit-times f s u m e t =
    ap₂ (round f (unlike s u)) (one-mul (suc m * up e)) (one-mul (down e)) ∙ exact f (unlike s u) m e (sign-free f u (unlike s u) m e t)

same_sign : (u : Bool) → unlike false u ≡ u
same_sign true = refl
same_sign false = refl

other_sign : (u : Bool) → unlike true u ≡ not u
other_sign true = refl
other_sign false = refl

zero-not-above : (s : Bool) (e : ℤ) → lt zero_part (fin s zero e) ≡ true → ⊥
unfolding lt
zero-not-above true e h = true≢false (sym h)
zero-not-above false e h = omega (arith, ltb-true (0 * 1 * down e) (0 * up e * 1) h, zero-mul (up e))

product : (scale : Float) (b : Bool) → T (fits binary32 scale) → lt zero_part scale ≡ true → lt scale (inf false) ≡ true
    → cond b (neg scale) scale ≡ mul binary32 (fin b 1 (pos 0)) scale
unfolding neg lt
product nan b t a h = absurd (true≢false (sym a))
product (inf true) b t a h = absurd (true≢false (sym a))
product (inf false) b t a h = absurd (true≢false (sym h))
product (fin u zero e) b t a h = absurd (zero-not-above u e a)
product (fin u (suc m) e) true t a h = sym (unit-times binary32 true u m e t ∙ ap (λ (x : Bool). fin x (suc m) e) (other_sign u))
product (fin u (suc m) e) false t a h = sym (unit-times binary32 false u m e t ∙ ap (λ (x : Bool). fin x (suc m) e) (same_sign u))

-- a scale that is taken is of single precision
pub part-is-product : (bit : ℕ) (scale : Float) → usable scale ≡ true → part bit scale ≡ mul binary32 (unit bit) scale
unfolding part
part-is-product bit scale u = product scale (eqb bit 0) (subst T (sym (single scale u)) tt) (above_zero scale u) (finite scale u)
