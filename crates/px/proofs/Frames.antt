-- Whether a bit of an L1 frame shows only the zero fill, as the code goes through them. Assumes nothing.
use mathlib.Core.Path.{◌≡◌, refl, sym, ◌∙◌}
use mathlib.Core.List.{List}
use mathlib.Core.Bool.{Bool, true, false, ◌&&◌}
use Prim.Native.Nat.{ℕ, ◌+◌, ◌-◌, ◌*◌, ◌/◌, ◌%◌, ◌^◌, ◌≤◌, ◌<◌}
use native.Mathlib.Nat.{zero-div}
use native.Mathlib.Decide.{dec_lt}
use native.Mathlib.Omega.{arith}
use lib.Dec.{ltb}
use lib.ListN.{get_or}
use borrow.Author.Tests.{eq-eqb, ne_eqb}
use Rattle.bits.specs.Bits.{bit_at}
use Rattle.interleaving.specs.PX.{cells, step_of, unreached, is_fill}
use Rattle.interleaving.specs.FinderPX.{source}
use Rattle.interleaving.proofs.Steps.{unreached-is}

and-true : (t : Bool) → (t && true) ≡ t
and-true true = refl
and-true false = refl

and-false : (t : Bool) → (t && false) ≡ false
and-false true = refl
and-false false = refl

-- a bit that is not 1 shows no fill
pub fill-not : (kind half : ℕ) (px : ℕ → ℕ) (j b : ℕ) → b ≡ px j → (b ≡ 1 → ⊥) → false ≡ is_fill kind half px j
unfolding is_fill
fill-not kind half px j b b-is h = rw (← b-is, ne_eqb b 1 h) (sym (and-false (unreached kind (step_of kind half j))))

-- a byte of zeros shows none
zero_bit : (l : List ℕ) (j i : ℕ) → get_or l j 0 ≡ 0 → 8 * j ≤ i → i < 8 * j + 8 → 0 ≡ bit_at l i
unfolding bit_at
zero_bit l j i z lo hi =
    let e : i / 8 ≡ j = omega arith in
    let d : 0 / 2 ^ (7 - i % 8) ≡ 0 = zero-div (2 ^ (7 - i % 8)) in
    rw (e, z, d)

pub zero-no-fill : (kind half : ℕ) (l : List ℕ) (j i : ℕ) → get_or l j 0 ≡ 0 → 8 * j ≤ i → i < 8 * j + 8 → is_fill kind half (bit_at l) i ≡ false
zero-no-fill kind half l j i z lo hi = sym (fill-not kind half (bit_at l) i 0 (zero_bit l j i z lo hi) (λ e. omega arith))

-- i is the bit's step, and s the step that writes its cell
module _ (kind half : ℕ) (px : ℕ → ℕ) (j : ℕ) (hk : kind < 2)
    (i s : ℕ) (i-is : i ≡ step_of kind half j) (hi : i < cells kind) (s-is : s ≡ source kind i) where
  test-is : unreached kind (step_of kind half j) ≡ ltb i s
  test-is = rw (← i-is) (unreached-is kind i hk hi ∙ rw s-is)

  pub fill_if : (b : ℕ) → b ≡ px j → b ≡ 1 → ltb i s ≡ is_fill kind half px j
  unfolding is_fill
  fill_if b b-is h = rw (test-is, ← b-is, eq-eqb b 1 h) (sym (and-true (ltb i s)))

-- the same from the number n on
pub fill_more : (p : ℕ → Bool) (n u : ℕ) → ((i : ℕ) → n ≤ i → i < n + u → p i ≡ false) → p (n + u) ≡ false → (i : ℕ) → n ≤ i → i < n + (u + 1) → p i ≡ false
fill_more p n u below here i h l =
    elim (dec_lt i (n + u)) [
      | yes m ↦ below i h m
      | no f ↦ let e : i ≡ n + u = omega arith in rw e here
    ]

-- a byte more: the bits below 8 * j and those of the byte j
pub byte_more : (p : ℕ → Bool) (j r : ℕ) → ((i : ℕ) → i < 8 * j → p i ≡ false) → ((i : ℕ) → 8 * j ≤ i → i < r → p i ≡ false) → (i : ℕ) → i < r → p i ≡ false
byte_more p j r below here i l =
    elim (dec_lt i (8 * j)) [
      | yes m ↦ below i m
      | no f ↦ here i (omega arith) l
    ]
