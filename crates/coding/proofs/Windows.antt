-- The count of the digits that a window and a mask share is a sum over the mask's digits. Assumes nothing.
use mathlib.Core.Path.{◌≡◌, sym, ap, ap₂, ◌∙◌}
use Prim.Native.Nat.{ℕ, zero, suc, ◌+◌, ◌-◌, ◌*◌, ◌/◌, ◌%◌, ◌^◌, ◌<◌, min}
use native.Mathlib.Nat.{add-zero, div-eq_of_lt}
use native.Mathlib.Omega.{arith}
use native.Mathlib.Numerals.{add-one}
use lib.Pow.{shr-shr, field, mod-mod-pow}
use lib.Bits.{bit_and, and_step, and_zero_r}
use lib.Count.{ones, ones_step}

pub and-ones : (w g : ℕ) → ones (bit_and w g) ≡ g % 2 * (w % 2) + ones (bit_and (w / 2) (g / 2))
and-ones w g =
    let a : ℕ = bit_and w g in
    let m : a % 2 ≡ min (w % 2) (g % 2) = omega (arith, and_step w g) in
    let q : a / 2 ≡ bit_and (w / 2) (g / 2) = omega (arith, and_step w g) in
    ones_step a ∙ ap₂ (λ (x y : ℕ). x + ones y) (m ∙ bits (w % 2) (g % 2) (omega arith) (omega arith)) q
  where
    bits : (x y : ℕ) → x < 2 → y < 2 → min x y ≡ y * x
    bits zero y h l = omega arith
    bits (suc zero) y h l = omega arith
    bits (suc (suc x)) y h l = absurd (omega arith)

-- the sum over the k digits of g from digit d on
abbrev pub dots : ℕ → ℕ → ℕ → (ℕ → ℕ) → ℕ
dots zero d g x = 0
dots (suc k) d g x = g / 2 ^ d % 2 * x d + dots k (suc d) g x

and-dots : (k d w g : ℕ) (x : ℕ → ℕ) → g < 2 ^ (d + k) → ((e : ℕ) → e < d + k → w / 2 ^ e % 2 ≡ x e)
    → ones (bit_and (w / 2 ^ d) (g / 2 ^ d)) ≡ dots k d g x
unfolding ones
and-dots zero d w g x h v =
    let z : g / 2 ^ d ≡ 0 = div-eq_of_lt (rw add-zero at h) in
    rw z (ap ones (and_zero_r (w / 2 ^ d)))
and-dots (suc k) d w g x h v =
    let e : d + suc k ≡ suc d + k = omega arith in
    let p : (n : ℕ) → n / 2 ^ d / 2 ≡ n / 2 ^ suc d = λ n. shr-shr n d 1 ∙ ap (λ (m : ℕ). n / 2 ^ m) (add-one d) in
    and-ones (w / 2 ^ d) (g / 2 ^ d)
    ∙ ap₂ (λ (a b : ℕ). a + b)
    (ap (λ (m : ℕ). g / 2 ^ d % 2 * m) (v d (omega arith)))
    (ap ones (ap₂ bit_and (p w) (p g)) ∙ and-dots k (suc d) w g x (rw e at h) (λ m l. v m (omega arith)))

-- the window w, whose digit e is x e, under the mask g of k digits
pub mask-dots : (k w g : ℕ) (x : ℕ → ℕ) → g < 2 ^ k → ((e : ℕ) → e < k → w / 2 ^ e % 2 ≡ x e) → ones (bit_and w g) ≡ dots k 0 g x
mask-dots k w g x h v =
    let a : w ≡ w / 1 = omega arith in
    let b : g ≡ g / 1 = omega arith in
    let z : 0 + k ≡ k = omega arith in
    ap ones (ap₂ bit_and a b) ∙ and-dots k 0 w g x (rw z h) (λ e l. v e (omega arith))

-- a digit of the last byte of a word
pub digit_low : (x e : ℕ) → e < 8 → x % 256 / 2 ^ e % 2 ≡ x / 2 ^ e % 2
digit_low x e h =
    let j : ℕ = 7 - e in
    let n : j + (1 + e) ≡ 8 = omega arith in
    let m : x % 256 % 2 ^ (1 + e) ≡ x % 2 ^ (1 + e) = ap (λ (k : ℕ). x % 2 ^ k % 2 ^ (1 + e)) (sym n) ∙ mod-mod-pow x j (1 + e) in
    sym (field (x % 256) 1 e) ∙ ap (λ (k : ℕ). k / 2 ^ e) m ∙ field x 1 e
