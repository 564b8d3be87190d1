-- A part with one more byte: its digits, their worth and its state. Assumes nothing.
use mathlib.Core.Path.{◌≡◌, refl, sym, ap, ap₂, ◌∙◌}
use Prim.Native.Nat.{ℕ, suc, ◌+◌, ◌-◌, ◌*◌, ◌^◌, ◌<◌, ◌≤◌, min}
use native.Mathlib.Nat.{pow-suc, mul_assoc}
use native.Mathlib.Omega.{arith}
use mathlib.Core.Bool.{Bool, true, false, cond, ◌&&◌, and-true, and-false, and_assoc}
use mathlib.Core.List.{List, [], ◌∷◌, ◌++◌}
use borrow.Author.Tests.{le-leb, lt-leb}
use lib.Dec.{leb}
use lib.ListN.{length}
use Rattle.std.specs.Prelude.{Option, Some, unwrap_or}
use Rattle.text.specs.Numbers.{is_digit, digits_alone, value}
use Rattle.linewise.specs.Going.{begun}
use Rattle.listing.specs.Running.{part_of}

length-snoc : (bytes : List ℕ) (b : ℕ) → length (bytes ++ (b ∷ [])) ≡ suc (length bytes)
length-snoc [] b = refl
length-snoc (c ∷ bytes) b = ap suc (length-snoc bytes b)

begun-snoc : (bytes : List ℕ) (b : ℕ) → begun (bytes ++ (b ∷ [])) ≡ true
unfolding begun
begun-snoc [] b = refl
begun-snoc (c ∷ bytes) b = refl

digits-snoc : (bytes : List ℕ) (b : ℕ) → digits_alone (bytes ++ (b ∷ [])) ≡ (digits_alone bytes && is_digit b)
unfolding digits_alone
digits-snoc [] b = and-true (is_digit b)
digits-snoc (c ∷ bytes) b = ap (λ (t : Bool). is_digit c && t) (digits-snoc bytes b) ∙ sym (and_assoc (is_digit c) (digits_alone bytes) (is_digit b))

value-snoc : (bytes : List ℕ) (b : ℕ) → value (bytes ++ (b ∷ [])) ≡ value bytes * 10 + (b - 48)
unfolding value
value-snoc [] b = omega arith
value-snoc (c ∷ bytes) b =
    let heavier : (c - 48) * 10 ^ length (bytes ++ (b ∷ [])) ≡ (c - 48) * 10 ^ length bytes * 10
    = rw (length-snoc bytes b, pow-suc) (sym (mul_assoc (c - 48) (10 ^ length bytes) 10)) in
    omega (arith, value-snoc bytes b)

-- the number of a part with one more byte: 1000 stays 1000
capped : (x y : Bool) (v d : ℕ) → cond (x && y) (min 1000 (v * 10 + d)) 1000 ≡ min 1000 (cond x (min 1000 v) 1000 * 10 + cond y d 1000)
capped true true v d = omega arith
capped true false v d = omega arith
capped false true v d = omega arith
capped false false v d = omega arith

-- the number of a part so far, which is 0 without bytes
number-so-far : (bytes : List ℕ) → unwrap_or (part_of bytes) 0 ≡ cond (digits_alone bytes) (min 1000 (value bytes)) 1000
unfolding part_of begun digits_alone value
number-so-far [] = refl
number-so-far (b ∷ bytes) = refl

one-more : (bytes : List ℕ) (b : ℕ) → part_of (bytes ++ (b ∷ [])) ≡ Some (cond (digits_alone bytes && is_digit b) (min 1000 (value bytes * 10 + (b - 48))) 1000)
unfolding part_of
one-more bytes b = rw (begun-snoc, digits-snoc, value-snoc)

pub pushed : (part : Option ℕ) (b d : ℕ) → d ≡ cond (is_digit b) (b - 48) 1000 → (bytes : List ℕ) → part ≡ part_of bytes
    → Some (min 1000 (unwrap_or part 0 * 10 + d)) ≡ part_of (bytes ++ (b ∷ []))
pushed part b d worth bytes e =
    ap₂ (λ n m. Some (min 1000 (n * 10 + m))) (ap (λ (p : Option ℕ). unwrap_or p 0) e ∙ number-so-far bytes) worth
    ∙ sym (one-more bytes b ∙ ap Some (capped (digits_alone bytes) (is_digit b) (value bytes) (b - 48)))

-- a byte is below the digits, above them or one of them
module _ (b : ℕ) where
  pub under-digits : b < 48 → is_digit b ≡ false
  unfolding is_digit
  under-digits h = rw (lt-leb 48 b h)

  pub over-digits : 57 < b → is_digit b ≡ false
  unfolding is_digit
  over-digits h = rw (lt-leb b 57 h) (and-false (leb 48 b))

  pub a-digit : 48 ≤ b → b ≤ 57 → is_digit b ≡ true
  unfolding is_digit
  a-digit h l = rw (le-leb 48 b h, le-leb b 57 l)
