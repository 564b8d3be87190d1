-- A part that is zero or, with either sign, so many times 2^-16, and its text. Assumes nothing.
use mathlib.Core.Path.{◌≡◌, refl, sym, ap, ◌∙◌}
use mathlib.Core.Bool.{Bool, true, false, cond, true≢false}
use mathlib.Core.List.{◌++◌}
use mathlib.Core.Logic.{inl, inr}
use Prim.Native.Nat.{ℕ, ◌*◌, ◌/◌, ◌<◌}
use native.Mathlib.Nat.{mul-div_cancel, mul-pos, lt_irrefl}
use native.Mathlib.Omega.{arith}
use lib.IntN.{pos}
use lib.Ieee.{Float, nan, inf, fin, up, down, lt, eq}
use lib.Ieee.Fits.{down_pos}
use borrow.Author.Tests.{eqb-true}
use Rattle.bits.proofs.Tests.{and-true}
use Rattle.points.specs.Points.{zero_part}
use Rattle.text.specs.Letters.{ascii}
use Rattle.vector_step.specs.Numbers.{exactly, part_text, times_in}
use Rattle.vector_step.specs.Shown.{Shows, Signed}

zero-shown : times_in zero_part ≡ 0
unfolding times_in
zero-shown = refl

zero-equal : eq zero_part zero_part ≡ true
unfolding eq
zero-equal = refl

scaled : (times : ℕ) (part : Float) → Signed times part → times_in part ≡ times
unfolding times_in
scaled times nan s = absurd s.worth
scaled times (inf t) s = absurd s.worth
scaled times (fin t m e) s = ap (λ (n : ℕ). n / down e) s.worth.1 ∙ mul-div_cancel times (down_pos e)

-- a part that has a size is not zero
apart : (times : ℕ) (part : Float) → Signed times part → eq part zero_part ≡ true → ⊥
unfolding eq
apart times nan s h = s.worth
apart times (inf t) s h = s.worth
apart times (fin t m e) s h =
    let z : m * up e * down (pos 0) ≡ 0 * up (pos 0) * down e = eqb-true _ _ (and-true _ _ h).0 in
    let v : 0 < times * down e = mul-pos s.above (down_pos e) in
    lt_irrefl 0 (omega (arith, z, v, s.worth.1))

pub is_zero : (times : ℕ) (part : Float) → Shows times part → eq part zero_part ≡ true → 0 ≡ times_in part
is_zero times part (inl e) h = sym (ap times_in e ∙ zero-shown)
is_zero times part (inr s) h = absurd (apart times part s h)

pub is-scale : (times : ℕ) (part : Float) → Shows times part → eq part zero_part ≡ false → times ≡ times_in part
is-scale times part (inl e) h = absurd (true≢false (sym zero-equal ∙ sym (ap (λ (x : Float). eq x zero_part) e) ∙ h))
is-scale times part (inr s) h = sym (scaled times part s)

-- ---- the text

pub below-zero : (part : Float) (n : ℕ) → n ≡ times_in part → lt part zero_part ≡ true → ascii "-" ++ exactly n ≡ part_text part
unfolding part_text
below-zero part n e h =
    ap (λ (k : ℕ). ascii "-" ++ exactly k) e
    ∙ sym (ap (λ (b : Bool). cond b (ascii "-" ++ exactly (times_in part)) (exactly (times_in part))) h)

pub not-below : (part : Float) (n : ℕ) → n ≡ times_in part → lt part zero_part ≡ false → exactly n ≡ part_text part
unfolding part_text
not-below part n e h =
    ap exactly e ∙ sym (ap (λ (b : Bool). cond b (ascii "-" ++ exactly (times_in part)) (exactly (times_in part))) h)
