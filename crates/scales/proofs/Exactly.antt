-- The number that a typed scale becomes has the value that the digits say. Assumes nothing.
use Rattle.std.proofs.Common.{Some, None, ◌≡◌, ℕ, ◌*◌, ◌/◌, ◌%◌, ◌^◌, Bool, true, false, cond, ◌&&◌, eqb, List, sym, refl, ap, ◌∙◌, subst, mul_assoc, mul_right_comm, arith, eqb-true}
use lib.Ieee.{Float, nan, inf, fin, up, down}
use lib.Ieee.Exact.{HasValue}
use Rattle.scales.specs.Scales.{exact_of, is_scale, is_single, scale_of, decimals}

never : {A : Type 0} (times : ℕ) → None ≡ Some times → A
never times e = let z : ◌≡◌ {A = ℕ} 0 1 = cc in absurd (omega arith)

-- what is taken is single, and 5^16 times as many 10^-16
exact-times : (n times : ℕ) → exact_of n ≡ Some times → (is_single times ≡ true) × (n ≡ times * 152587890625)
unfolding exact_of
exact-times n times = go (eqb (n % 5 ^ 16) 0) (is_single (n / 5 ^ 16)) refl refl
  where
    go : (a b : Bool) → eqb (n % 5 ^ 16) 0 ≡ a → is_single (n / 5 ^ 16) ≡ b → cond (a && b) (Some (n / 5 ^ 16)) None ≡ Some times
        → (is_single times ≡ true) × (n ≡ times * 152587890625)
    go true true p q e =
        let z : n / 152587890625 ≡ times = cc in
        (subst (λ (k : ℕ). is_single k ≡ true) z q, omega (arith, eqb-true (n % 152587890625) 0 p, z))
    go true false p q e = never times e
    go false b p q e = never times e

taken : (text : List ℕ) (times : ℕ) → scale_of text ≡ Some times → exact_of (decimals text) ≡ Some times
unfolding scale_of
taken text times = go (is_scale text)
  where
    go : (a : Bool) → cond a (exact_of (decimals text)) None ≡ Some times → exact_of (decimals text) ≡ Some times
    go true e = e
    go false e = never times e

-- what is taken is a number of single precision
pub single-typed : (text : List ℕ) (times : ℕ) → scale_of text ≡ Some times → is_single times ≡ true
single-typed text times e = (exact-times (decimals text) times (taken text times e)).0

-- times 2^-16 is n times 10^-16
in-decimal : (x : Float) (n times : ℕ) → n ≡ times * 152587890625 → HasValue x false times 65536 → HasValue x false n (10 ^ 16)
in-decimal nan n times e h = absurd h
in-decimal (inf s) n times e h = absurd h
in-decimal (fin s m k) n times e h = (
  h.0,
  sym (mul_assoc (m * up k) 65536 152587890625)
      ∙ ap (λ (v : ℕ). v * 152587890625) h.1
      ∙ mul_right_comm times (down k) 152587890625
      ∙ ap (λ (v : ℕ). v * down k) (sym e),
)

-- x is what `value_of` gives
pub scale-exact : (text : List ℕ) (times : ℕ) (x : Float) → scale_of text ≡ Some times → (is_single times ≡ true → HasValue x false times 65536)
    → HasValue x false (decimals text) (10 ^ 16)
scale-exact text times x e h =
    let t = exact-times (decimals text) times (taken text times e) in
    in-decimal x (decimals text) times t.1 (h t.0)
