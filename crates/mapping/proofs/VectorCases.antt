-- The vector piece by piece, and the answers case by case: what the code returns is the definition's. Assumes nothing.
use mathlib.Core.Path.{◌≡◌, refl, sym, ap, subst, ◌∙◌}
use mathlib.Core.Bool.{Bool, true, false, not}
use mathlib.Core.Option.{Option, none, some}
use mathlib.Core.List.{List, [], ◌∷◌}
use Prim.Native.Nat.{ℕ, ◌*◌, ◌<◌, ◌≤◌}
use native.Mathlib.Decide.{ℕ_discrete}
use native.Mathlib.Omega.{arith}
use borrow.Author.Tests.{lt-ltb, le-ltb, ltb-true}
use lib.Dec.{ltb}
use lib.ListN.{length}
use lib.Ieee.{Float}
use Rattle.runs.specs.declared.Extended.TheVariants.{P3, P4}
use Rattle.runs.specs.declared.Kind.{Kind}
use Rattle.runs.specs.declared.Kind.TheVariants.{Unused, Narrow, Wide}
use Rattle.runs.specs.declared.Answer.{Answer}
use Rattle.runs.specs.declared.Answer.TheVariants.{Success, ModeNotCovered, WrongLength, SymbolTooHigh, ScaleNotUsable}
use Rattle.runs.specs.Answers.{number_of, on_success}
use Rattle.runs.specs.Causes.{at, judge, when, wrong}
use Rattle.runs.proofs.Answered.{not-success, success-is}
use Rattle.runs.specs.Lengths.{kind_of, matrix_len, pm_len, control_len}
use Rattle.runs.specs.Lent.{Signal}
use Rattle.runs.proofs.Passing.{wrong-head}
use Rattle.modes.specs.Sizes.{placed, sizes}
use Rattle.modes.proofs.Places.{at_place, no_place}
use Rattle.subcarriers.specs.declared.Source.{Source}
use Rattle.points.specs.declared.Point.{Point}
use Rattle.points.specs.Points.{usable}
use Rattle.mapping.specs.Readable.{Fillable, Readable, wanted, within}
use Rattle.subcarriers.specs.Slots.{mode_at}
use Rattle.subcarriers.specs.Tables.{mapped, source_of}
use Rattle.mapping.specs.Vector.{Vector, admitted, answer_of, filled, imaginary_parts, point_at, point_for, real_parts, scale_at, vector, vector_sizes, width}
use Rattle.mapping.proofs.Rows.{carries-in-rows}

module _ (n k w1 w2 : ℕ) (source : Source) (s : source ≡ source_of (mode_at n) k) (e1 : w1 ≡ width (kind_of (mode_at n) P3)) (e2 : w2 ≡ width (kind_of (mode_at n) P4)) where
  pub inside_is : n < 4 → k < 1093 → within w1 w2 source ≡ true
  inside_is h l = (λ i. within (e1 i) (e2 i) (s i)) ∙ carries-in-rows n k h l

  pub pieced : (symbol : ℕ) (lower upper : Float) (g : Signal) (scale : Float) → scale ≡ scale_at lower upper k
      → point_for symbol w1 w2 g source scale ≡ point_at (mode_at n) symbol lower upper g k
  unfolding point_at
  pieced symbol lower upper g scale f = λ i. point_for symbol (e1 i) (e2 i) g (s i) (f i)

-- ---- the mode's number and the widths, as the code has them

module _ (mode n : ℕ) {w1 w2 : ℕ} {k3 k4 : Kind} (m : mode_at n ≡ mode) (a3 : k3 ≡ kind_of mode P3) (b3 : w1 ≡ width k3) (a4 : k4 ≡ kind_of mode P4) (b4 : w2 ≡ width k4) where
  pub width1-is : w1 ≡ width (kind_of (mode_at n) P3)
  width1-is = b3 ∙ ap width a3 ∙ ap (λ (x : ℕ). width (kind_of x P3)) (sym m)

  pub width2-is : w2 ≡ width (kind_of (mode_at n) P4)
  width2-is = b4 ∙ ap width a4 ∙ ap (λ (x : ℕ). width (kind_of x P4)) (sym m)

  pub readable-is : (symbol : ℕ) (g : Signal) → Readable symbol (width (kind_of mode P3)) (width (kind_of mode P4)) g → Readable symbol w1 w2 g
  readable-is symbol g r =
      subst (λ (x : ℕ). Readable symbol x w2 g) (sym (b3 ∙ ap width a3)) (subst (λ (x : ℕ). Readable symbol (width (kind_of mode P3)) x g) (sym (b4 ∙ ap width a4)) r)

-- a point of the mode of number n is one of the mode
pub of-mode : (mode n symbol : ℕ) (lower upper : Float) (g : Signal) (k : ℕ) (p : Point) → mode_at n ≡ mode → p ≡ point_at (mode_at n) symbol lower upper g k
    → (p.re ≡ (point_at mode symbol lower upper g k).re) × (p.im ≡ (point_at mode symbol lower upper g k).im)
of-mode mode n symbol lower upper g k p m e =
    let z = e ∙ ap (λ (x : ℕ). point_at x symbol lower upper g k) m in
    (ap (λ (q : Point). q.re) z, ap (λ (q : Point). q.im) z)

-- ---- answers

module _ (mode symbol : ℕ) (lower upper : Float) (o : Option ℕ) where
  pub mode-refused : mapped mode ≡ false → ModeNotCovered ≡ admitted mode symbol lower upper o
  unfolding admitted judge
  mode-refused h = rw h

  module _ (n place : ℕ) (v : mapped mode ≡ true) (found : placed n place ≡ o) where
    pub length-refused : place < n → WrongLength place ≡ admitted mode symbol lower upper o
    unfolding admitted judge
    length-refused h = rw (v, sym found ∙ at_place n place h)

    module _ (h : n ≤ place) where
      pub symbol-refused : 512 ≤ symbol → SymbolTooHigh ≡ admitted mode symbol lower upper o
      unfolding admitted judge
      symbol-refused l = rw (v, sym found ∙ no_place n place h, le-ltb symbol 512 l)

      module _ (l : symbol < 512) where
        pub lower-refused : usable lower ≡ false → ScaleNotUsable 0 ≡ admitted mode symbol lower upper o
        unfolding admitted judge
        lower-refused a = rw (v, sym found ∙ no_place n place h, lt-ltb symbol 512 l, a)

        pub upper-refused : usable lower ≡ true → usable upper ≡ false → ScaleNotUsable 1 ≡ admitted mode symbol lower upper o
        unfolding admitted judge
        upper-refused a b = rw (v, sym found ∙ no_place n place h, lt-ltb symbol 512 l, a, b)

        pub accepted : usable lower ≡ true → usable upper ≡ true → Success ≡ admitted mode symbol lower upper o
        unfolding admitted judge
        accepted a b = rw (v, sym found ∙ no_place n place h, lt-ltb symbol 512 l, a, b)

-- what success says
pub clear : (mode symbol : ℕ) (lower upper : Float) (o : Option ℕ) → number_of (admitted mode symbol lower upper o) ≡ 0
    → (mapped mode ≡ true) × (o ≡ none) × (symbol < 512) × (usable lower ≡ true) × (usable upper ≡ true)
unfolding admitted judge
clear mode symbol lower upper o e =
    let (a, b, d, f, h) = go (mapped mode) o (ltb symbol 512) (usable lower) (usable upper) e in
    (a, b, ltb-true symbol 512 d, f, h)
  where
    go : (a : Bool) (o : Option ℕ) (b l u : Bool)
        → number_of (judge (when (not a) ModeNotCovered ∷ at WrongLength o ∷ when (not b) SymbolTooHigh ∷ when (not l) (ScaleNotUsable 0) ∷ when (not u) (ScaleNotUsable 1) ∷ [])) ≡ 0
        → (a ≡ true) × (o ≡ none) × (b ≡ true) × (l ≡ true) × (u ≡ true)
    go true none true true true e = (refl, refl, refl, refl, refl)
    go true none true true false e = absurd (omega arith)
    go true none true false u e = absurd (omega arith)
    go true none false l u e = absurd (omega arith)
    go true (some k) b l u e = absurd (omega arith)
    go false o b l u e = absurd (omega arith)

-- ---- the call

long : (k : Kind) (n : ℕ) → n ≡ matrix_len k → 8 * n ≡ 512 * width k
long Unused n e = omega arith
long Narrow n e = omega arith
long Wide n e = omega arith

narrow : (k : Kind) → width k ≤ 144
narrow Unused = omega arith
narrow Narrow = omega arith
narrow Wide = omega arith

refused : {A : Type 0} (answer : Answer) (x y : A) → (number_of answer ≡ 0 → ⊥) → on_success answer x y ≡ y
refused answer x y h = not-success answer x y (λ z. h (ap number_of z))

-- a call whose answer has the number 0 leaves the vector of the symbol
module _ (mode symbol : ℕ) (lower upper : Float) (g : Signal) (re im : List Float) where
  clear-answer : number_of (filled mode symbol lower upper g re im).answer ≡ 0 → number_of (answer_of mode symbol lower upper g re im) ≡ 0
  unfolding filled
  clear-answer z = elim (ℕ_discrete (number_of (answer_of mode symbol lower upper g re im)) 0) [
    | yes e ↦ e
    | no n ↦ sym (ap (λ (v : Vector). number_of v.answer) (refused (answer_of mode symbol lower upper g re im) _ _ n)) ∙ z
  ]

  pub on-success : number_of (filled mode symbol lower upper g re im).answer ≡ 0
      → (mapped mode ≡ true) × (usable lower ≡ true) × (usable upper ≡ true)
      × (filled mode symbol lower upper g re im ≡ vector Success (real_parts mode symbol lower upper g) (imaginary_parts mode symbol lower upper g))
  unfolding filled answer_of on_success
  on-success n =
      let z = clear-answer n in
      let (cov, right, low, l, u) = clear mode symbol lower upper (wrong 0 (vector_sizes mode g re im)) z in
      (cov, l, u, ap (λ (x : Answer). on_success x (vector Success (real_parts mode symbol lower upper g) (imaginary_parts mode symbol lower upper g)) (vector x re im)) (success-is (answer_of mode symbol lower upper g re im) z))

module _ (mode symbol : ℕ) (lower upper : Float) (g : Signal) (re im : List Float) (have want : List ℕ) (answer : Answer)
    (h : have ≡ length g.matrices.pm ∷ length g.matrices.px1 ∷ length g.matrices.px2 ∷ length g.control ∷ length re ∷ length im ∷ [])
    (w : want ≡ wanted mode) (a : answer ≡ admitted mode symbol lower upper (wrong 0 (sizes have want))) where
  compared : sizes have want ≡ vector_sizes mode g re im
  unfolding sizes vector_sizes
  compared = rw (h, w)

  answer-is : answer ≡ answer_of mode symbol lower upper g re im
  unfolding answer_of
  answer-is = rw compared at a

  pub kept : (number_of answer ≡ 0 → ⊥) → vector answer re im ≡ filled mode symbol lower upper g re im
  unfolding filled
  kept n =
      ap (λ (x : Answer). vector x re im) answer-is
      ∙ sym (refused (answer_of mode symbol lower upper g re im) _ _ (λ z. n (ap number_of answer-is ∙ z)))

  pub done : number_of answer ≡ 0 → (re' im' : List Float) → re' ≡ real_parts mode symbol lower upper g → im' ≡ imaginary_parts mode symbol lower upper g
      → vector answer re' im' ≡ filled mode symbol lower upper g re im
  unfolding filled on_success
  done n re' im' e f = let s = success-is answer n in rw (sym answer-is ∙ s, s, e, f)

  pub fillable : number_of answer ≡ 0 → Fillable mode symbol g re im
  unfolding vector_sizes pm_len control_len
  fillable n =
      let (cov, right, sym-lt, l, u) = clear mode symbol lower upper (wrong 0 (sizes have want)) (ap number_of (sym a) ∙ n) in
      let right' = rw compared at right in
      let (e₀, r₁) = wrong-head _ _ _ _ right' in
      let (e₁, r₂) = wrong-head _ _ _ _ r₁ in
      let (e₂, r₃) = wrong-head _ _ _ _ r₂ in
      let (e₃, r₄) = wrong-head _ _ _ _ r₃ in
      let (e₄, r₅) = wrong-head _ _ _ _ r₄ in
      let (e₅, r) = wrong-head _ _ _ _ r₅ in
      record {
        mode-mapped = cov;
        readable = record {
          symbol-lt = sym-lt;
          narrow1 = narrow (kind_of mode P3);
          narrow2 = narrow (kind_of mode P4);
          pm-long = omega (arith, e₀);
          px1-long = long (kind_of mode P3) _ e₁;
          px2-long = long (kind_of mode P4) _ e₂;
          control-long = omega (arith, e₃);
        };
        re-long = e₄;
        im-long = e₅;
      }
