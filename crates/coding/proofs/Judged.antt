-- Cells that were decoded and are coded again, unit by unit: the lowest frame where they differ. Assumes nothing.
use mathlib.Core.Path.{◌≡◌, refl, sym, ap, ap₂, ◌∙◌}
use mathlib.Core.Bool.{Bool, true, false, not}
use mathlib.Core.List.{List}
use Prim.Native.Nat.{ℕ, suc, ◌+◌, ◌-◌, ◌*◌, ◌/◌, ◌<◌, ◌≤◌}
use native.Mathlib.Nat.{mul-le-mul_left, mul-le-mul_right, mul_left_comm, mul-add}
use native.Mathlib.Decide.{dec_lt}
use native.Mathlib.Omega.{arith}
use lib.Arith.{digits_div, digits_mod, digits_lt}
use lib.Dec.{T, eqb→eq}
use lib.ListN.{length}
use borrow.Author.Tests.{eq-eqb}
use Rattle.bits.specs.Bits.{bit_at, number, packed}
use Rattle.bits.specs.Tests.{lowest}
use Rattle.bits.proofs.Numbers.{number-cong}
use Rattle.bits.proofs.Packed.{bit_at_lt, bit_at-packed}
use Rattle.bits.proofs.Tests.{all-at, all_true, lowest-at, lowest-none}
use Rattle.coding.specs.declared.Rate.{Rate}
use Rattle.coding.specs.Coder.{coded}
use Rattle.coding.specs.Inverse.{uncoded}
use Rattle.coding.specs.Rates.{pattern_of, recipe_of, coded_length, is_coded}
use Rattle.coding.specs.Channel.{part, no_frame, Agree}
use Rattle.coding.specs.Buffers.{Buffers, coded_each, uncoded_each}
use Rattle.coding.specs.Units.{group_size}
use Rattle.coding.proofs.Coder.{coded-same}
use Rattle.coding.proofs.Slices.{number_same}
use Rattle.coding.proofs.Passes.{coded_each-bit, uncoded_each-bit}
use Rattle.coding.proofs.CodedUnits.{size-pos}
use Rattle.coding.proofs.Frames.{unit-frame, units}
use Rattle.coding.proofs.Places as places

pub agree-more : (a b : ℕ) (f g : ℕ → ℕ) → Agree a f g → ((i : ℕ) → i < b → f (a + i) ≡ g (a + i)) → Agree (a + b) f g
agree-more a b f g e h i l =
    elim (dec_lt i a) [
      | yes m ↦ e i m
      | no m ↦
          let r : a + (i - a) ≡ i = omega arith in
          sym (ap f r) ∙ h (i - a) (omega arith) ∙ ap g r
    ]

coded-at : (rate : Rate) (N : ℕ) (y : ℕ → ℕ) → T (is_coded rate N y) → (m : ℕ) → m < coded_length rate N
    → y m ≡ coded (pattern_of rate) N (uncoded (pattern_of rate) (recipe_of rate) N y) m
unfolding is_coded
coded-at rate N y t m h = eqb→eq _ _ (all-at _ _ t m h)

not-true : (c : Bool) → (T c → ⊥) → not c ≡ true
not-true true f = absurd (f tt)
not-true false f = refl

module _ {rate : Rate} {n count : ℕ} {frames cells : List ℕ} (b : Buffers rate n count frames cells)
    (found : frames ≡ packed (count * n) (uncoded_each rate (8 * n) (bit_at cells))) where
  abbrev size : ℕ
  size = coded_length rate (8 * n)

  abbrev y : ℕ → ℕ
  y = bit_at cells

  -- the found frames, coded again
  abbrev again : ℕ → ℕ
  again = coded_each rate (8 * n) (bit_at frames)

  again-is : (k m : ℕ) → k < count → m < size → again (k * size + m) ≡ coded (pattern_of rate) (8 * n) (uncoded (pattern_of rate) (recipe_of rate) (8 * n) (part size k y)) m
  unfolding coded_each uncoded_each
  again-is k m h l =
      ap₂ (λ (q r : ℕ). coded (pattern_of rate) (8 * n) (part (8 * n) q (bit_at frames)) r) (digits_div k l) (digits_mod k l)
      ∙ coded-same (pattern_of rate) (8 * n) _ _ (omega (arith, b.enough))
      (λ i j.
      ap (λ (x : List ℕ). bit_at x (k * (8 * n) + i)) found
      ∙ bit_at-packed (count * n) _ (λ i _. uncoded_each-bit rate (8 * n) y i) (k * (8 * n) + i)
      (let z : k * (8 * n) + i < count * (8 * n) = digits_lt h j in omega (arith, mul_left_comm count 8 n))
      ∙ ap₂ (λ (q r : ℕ). uncoded (pattern_of rate) (recipe_of rate) (8 * n) (part size q y) r) (digits_div k j) (digits_mod k j))
      m

  -- a frame whose cells are as it is coded again, and one whose cells are not
  frame-good : (k : ℕ) → k < count → Agree size (part size k y) (part size k again) → no_frame rate (8 * n) y k ≡ false
  unfolding no_frame is_coded
  frame-good k h e = ap not (all_true size _ (λ m l. eq-eqb _ _ (e m l ∙ again-is k m h l)))

  frame-bad : (k : ℕ) → k < count → (Agree size (part size k y) (part size k again) → ⊥) → no_frame rate (8 * n) y k ≡ true
  unfolding no_frame
  frame-bad k h e = not-true (is_coded rate (8 * n) (part size k y)) (λ t. e (λ m l. coded-at rate (8 * n) (part size k y) t m l ∙ sym (again-is k m h l)))

  -- u units agree
  module _ (u : ℕ) (e : Agree (8 * (group_size rate * u)) y again) where
    covered : (k : ℕ) → k < count → suc k * (n / 2) ≤ u → no_frame rate (8 * n) y k ≡ false
    covered k h l =
        frame-good k h
        (λ m j.
        let z : k * size + m < suc k * size = digits_lt (omega arith) j in
        e (k * size + m) (omega (arith, places.coded-frames n (group_size rate) (suc k) b.even, mul-le-mul_left (group_size rate) l)))

    -- the next unit: x is how it is coded again, and z the cells
    module _ (l x z : ℕ) (l-is : l ≡ group_size rate)
        (x-is : x ≡ number (8 * group_size rate) (λ i. again (8 * (group_size rate * u) + i)))
        (z-is : z ≡ number (8 * l) (λ i. y (8 * (l * u) + i))) where
      cells_are : z ≡ number (8 * group_size rate) (λ i. y (8 * (group_size rate * u) + i))
      cells_are = z-is ∙ ap (λ (k : ℕ). number (8 * k) (λ i. y (8 * (k * u) + i))) l-is

      pub stops : u < length frames / 2 → (x ≡ z → ⊥) → u / (n / 2) ≡ lowest count (no_frame rate (8 * n) y)
      stops h differ =
          let k : ℕ = u / (n / 2) in
          let hk : k < count = unit-frame b u h in
          sym (lowest-at count k (no_frame rate (8 * n) y) hk
          (λ j l. covered j (omega arith) (omega (arith, mul-le-mul_right (n / 2) l, places.unit-whole n u b.enough b.even)))
          (frame-bad k hk
          (λ same. differ (x-is
          ∙ number-cong (8 * group_size rate) _ _
          (λ i l.
          let at = places.coded-bit n u b.enough b.even (group_size rate) (size-pos rate) i l in
          ap again at ∙ sym (same _ (places.coded-bit-inside n u b.enough b.even (group_size rate) (size-pos rate) i l)) ∙ ap y (sym at))
          ∙ sym cells_are))))

      pub goes_on : x ≡ z → Agree (8 * (group_size rate * (u + 1))) y again
      goes_on w =
          let s : 8 * (group_size rate * u) + 8 * group_size rate ≡ 8 * (group_size rate * (u + 1)) = omega (arith, mul-add (group_size rate) u 1) in
          rw s at
          (agree-more (8 * (group_size rate * u)) (8 * group_size rate) y again e
          (λ i l. sym (number_same (8 * group_size rate) _ _ (λ j. coded_each-bit _ _ _ _) (λ j. bit_at_lt cells _) (sym x-is ∙ w ∙ cells_are) i l)))

    -- no unit is left
    pub ends : length frames / 2 ≤ u → count ≡ lowest count (no_frame rate (8 * n) y)
    ends h =
        sym (lowest-none count (no_frame rate (8 * n) y)
        (λ k l. covered k l (omega (arith, units b, mul-le-mul_right (n / 2) l))))
