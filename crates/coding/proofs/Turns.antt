-- Counting back around a frame's end: by bits, by bytes and by groups. Assumes nothing.
use mathlib.Core.Path.{◌≡◌, sym, ap, ap₂, ◌∙◌}
use mathlib.Core.Logic.{◌⊎◌, ⊎_elim}
use Prim.Native.Nat.{ℕ, ◌+◌, ◌-◌, ◌*◌, ◌/◌, ◌%◌, ◌<◌, ◌≤◌}
use native.Mathlib.Nat.{mod-eq_of_lt, add-mod_right, div-add-mod', mod-lt, add-mul, mul_assoc, mul_left_comm}
use native.Mathlib.Omega.{arith}
use lib.Arith.{digits_mod, digits_lt}
use Rattle.coding.specs.Coder.{back}
use Rattle.coding.specs.Units.{around}

pub back_inside : (N j d : ℕ) → d ≤ j → j < N → back N j d ≡ j - d
unfolding back
back_inside N j d h l =
    let e : j + N - d ≡ j - d + N = omega arith in
    let b : j - d < N = omega arith in
    ap (λ (k : ℕ). k % N) e ∙ add-mod_right (j - d) N ∙ mod-eq_of_lt b

pub back-past : (N j d : ℕ) → j < d → d ≤ N → back N j d ≡ j + N - d
unfolding back
back-past N j d h l = mod-eq_of_lt (omega arith)

-- both places moved on by b
pub back-shift : (N j d b : ℕ) → back N (j + b) (d + b) ≡ back N j d
unfolding back
back-shift N j d b = let e : j + b + N - (d + b) ≡ j + N - d = omega arith in ap (λ (k : ℕ). k % N) e

-- the d bytes before byte r
pub back-bytes : (n r d i : ℕ) → r + d ≤ n → r < n → (r ≡ 0) ⊎ (d ≤ r) → i < 8 * d → back (8 * n) (8 * r + i) (8 * d) ≡ 8 * back n r d + i
back-bytes n r d i h l w m =
    ⊎_elim
    (λ z.
    let p : back (8 * n) (8 * r + i) (8 * d) ≡ 8 * r + i + 8 * n - 8 * d = back-past (8 * n) (8 * r + i) (8 * d) (omega arith) (omega arith) in
    let q : back n r d ≡ r + n - d = back-past n r d (omega arith) (omega arith) in
    omega arith)
    (λ k.
    let p : back (8 * n) (8 * r + i) (8 * d) ≡ 8 * r + i - 8 * d = back_inside (8 * n) (8 * r + i) (8 * d) (omega arith) (omega arith) in
    let q : back n r d ≡ r - d = back_inside n r d k l in
    omega arith)
    w

pub back_fits : (n r d : ℕ) → r + d ≤ n → 0 < d → (r ≡ 0) ⊎ (d ≤ r) → back n r d + d ≤ n
back_fits n r d h p w =
    ⊎_elim (λ z. omega (arith, back-past n r d (omega arith) (omega arith))) (λ k. omega (arith, back_inside n r d k (omega arith))) w

-- the byte r itself
pub back-here : (n r d i : ℕ) → 8 * r + i < 8 * n → back (8 * n) (8 * r + (8 * d + i)) (8 * d) ≡ 8 * r + i
back-here n r d i h =
    let a : 8 * r + (8 * d + i) ≡ 8 * r + i + 8 * d = omega arith in
    let b : 8 * d ≡ 0 + 8 * d = omega arith in
    ap₂ (back (8 * n)) a b ∙ back-shift (8 * n) (8 * r + i) 0 (8 * d) ∙ back_inside (8 * n) (8 * r + i) 0 (omega arith) h ∙ omega arith

-- the remainder of a number of two digits, the lower below L
pub mod-digits : (M L a k : ℕ) → 0 < M → k < L → (a * L + k) % (M * L) ≡ a % M * L + k
mod-digits M L a k h l =
    let e : a * L + k ≡ a / M * (M * L) + (a % M * L + k) = ap (λ (x : ℕ). x * L + k) (sym (div-add-mod' a M)) ∙ omega (arith, add-mul (a / M * M) (a % M) L, mul_assoc (a / M) M L) in
    ap (λ (x : ℕ). x % (M * L)) e ∙ digits_mod (a / M) (digits_lt (mod-lt a h) l)

-- ---- the word that starts d bytes before byte j

module _ (n j d : ℕ) (f : ℕ → ℕ) where
  pub around-before : (i : ℕ) → j % n + d ≤ n → 0 < d → (j % n ≡ 0) ⊎ (d ≤ j % n) → i < 8 * d
      → f (8 * (j / n * n + back n (j % n) d) + i) ≡ around n j d f i
  unfolding around
  around-before i h p w l =
      ap f (omega (arith, mul_left_comm (j / n) 8 n, back-bytes n (j % n) d i h (omega arith) w l))

  pub around_here : (i : ℕ) → 8 * (j % n) + i < 8 * n → f (8 * j + i) ≡ around n j d f (8 * d + i)
  unfolding around
  around_here i h = ap f (omega (arith, mul_left_comm (j / n) 8 n, div-add-mod' j n, back-here n (j % n) d i h))

  pub around-bit : ((i : ℕ) → f i < 2) → (i : ℕ) → around n j d f i < 2
  unfolding around
  around-bit b i = b _
