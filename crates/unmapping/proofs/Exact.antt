-- After every filling that succeeds each part is the scale of its sideband, its negation or positive zero, exactly. Assumes nothing.
use mathlib.Core.Path.{◌≡◌, refl, sym, ap, subst, ◌∙◌}
use mathlib.Core.Logic.{inl, inr, ◌≢◌}
use mathlib.Core.Bool.{Bool, true, false, cond}
use mathlib.Core.List.{List}
use Prim.Native.Nat.{ℕ, ◌<◌}
use lib.Dec.{eqb}
use lib.ListN.{get_or}
use lib.Ieee.{Float, binary32, mul, neg, of_bits}
use Rattle.bits.proofs.Listed.{get_or-listed}
use Rattle.runs.specs.Answers.{number_of}
use Rattle.runs.specs.declared.Extended.TheVariants.{P3, P4}
use Rattle.runs.specs.Lengths.{kind_of}
use Rattle.runs.specs.Lent.{Signal}
use Rattle.points.specs.declared.Point.{Point}
use Rattle.subcarriers.specs.declared.Source.{Source}
use Rattle.subcarriers.specs.declared.Source.TheVariants.{Unused, Pm, Px1, Px2, Control}
use Rattle.unmapping.specs.Exact.{Exact, ScaleOrNegation, Products, in_phase, quadrature}
use Rattle.points.specs.Points.{no_point, part, point_of, unit, usable, zero_part}
use Rattle.subcarriers.specs.Tables.{source_of}
use Rattle.mapping.specs.Vector.{Vector, filled, imaginary_parts, point_at, point_for, points, real_parts, scale_at, width}
use Rattle.mapping.proofs.VectorCases.{on-success}
use Rattle.unmapping.proofs.CellsBack.{usable_at}
use Rattle.unmapping.proofs.Units.{part-is-product}

-- positive zero is the number of bit pattern 0
pub zero_bits : zero_part ≡ of_bits binary32 0
unfolding of_bits
zero_bits = refl

scaled : (scale : Float) (bit : ℕ) → ScaleOrNegation scale (part bit scale)
unfolding part
scaled scale bit = go (eqb bit 0)
  where
    go : (b : Bool) → ScaleOrNegation scale (cond b (neg scale) scale)
    go true = inr refl
    go false = inl refl

abbrev BothExact : Float → Point → Type 0
BothExact scale p = ScaleOrNegation scale p.re × ScaleOrNegation scale p.im

of-source : (symbol w1 w2 : ℕ) (g : Signal) (scale : Float) (s : Source) → s ≢ Unused → BothExact scale (point_for symbol w1 w2 g s scale)
unfolding point_for point_of
of-source symbol w1 w2 g scale Unused ne = absurd (ne refl)
of-source symbol w1 w2 g scale (Pm c) ne = (scaled scale _, scaled scale _)
of-source symbol w1 w2 g scale (Px1 c) ne = (scaled scale _, scaled scale _)
of-source symbol w1 w2 g scale (Px2 c) ne = (scaled scale _, scaled scale _)
of-source symbol w1 w2 g scale (Control c) ne = (scaled scale _, scaled scale _)

module _ (mode symbol : ℕ) (lower upper : Float) (g : Signal) (k : ℕ) where
  used-exact : source_of mode k ≢ Unused → BothExact (scale_at lower upper k) (point_at mode symbol lower upper g k)
  unfolding point_at
  used-exact ne = of-source symbol (width (kind_of mode P3)) (width (kind_of mode P4)) g (scale_at lower upper k) (source_of mode k) ne

  unused-zero : source_of mode k ≡ Unused → point_at mode symbol lower upper g k ≡ no_point
  unfolding point_at point_for
  unused-zero e = ap (λ (s : Source). point_for symbol (width (kind_of mode P3)) (width (kind_of mode P4)) g s (scale_at lower upper k)) e

  module _ (h : k < points) (other : Float) where
    real-is : get_or (real_parts mode symbol lower upper g) k other ≡ (point_at mode symbol lower upper g k).re
    real-is = get_or-listed points (λ j. (point_at mode symbol lower upper g j).re) k other h

    imaginary-is : get_or (imaginary_parts mode symbol lower upper g) k other ≡ (point_at mode symbol lower upper g k).im
    imaginary-is = get_or-listed points (λ j. (point_at mode symbol lower upper g j).im) k other h

    used-parts : source_of mode k ≢ Unused
        → ScaleOrNegation (scale_at lower upper k) (get_or (real_parts mode symbol lower upper g) k other)
        × ScaleOrNegation (scale_at lower upper k) (get_or (imaginary_parts mode symbol lower upper g) k other)
    used-parts ne =
        let (a, b) = used-exact ne in
        (subst (λ (x : Float). ScaleOrNegation (scale_at lower upper k) x) (sym real-is) a, subst (λ (x : Float). ScaleOrNegation (scale_at lower upper k) x) (sym imaginary-is) b)

    unused-parts : source_of mode k ≡ Unused
        → (get_or (real_parts mode symbol lower upper g) k other ≡ zero_part) × (get_or (imaginary_parts mode symbol lower upper g) k other ≡ zero_part)
    unfolding no_point
    unused-parts e = (real-is ∙ ap (λ (p : Point). p.re) (unused-zero e), imaginary-is ∙ ap (λ (p : Point). p.im) (unused-zero e))

-- ---- each part is a product

module _ (mode symbol : ℕ) (g : Signal) (scale : Float) (u : usable scale ≡ true) where
  abbrev point : Source → Point
  point s = point_for symbol (width (kind_of mode P3)) (width (kind_of mode P4)) g s scale

  real-product : (s : Source) → s ≢ Unused → (point s).re ≡ mul binary32 (unit (in_phase mode symbol g s)) scale
  unfolding point_for point_of
  real-product Unused ne = absurd (ne refl)
  real-product (Pm c) ne = part-is-product _ scale u
  real-product (Px1 c) ne = part-is-product _ scale u
  real-product (Px2 c) ne = part-is-product _ scale u
  real-product (Control c) ne = part-is-product _ scale u

  imaginary-product : (s : Source) → s ≢ Unused → (point s).im ≡ mul binary32 (unit (quadrature mode symbol g s)) scale
  unfolding point_for point_of
  imaginary-product Unused ne = absurd (ne refl)
  imaginary-product (Pm c) ne = part-is-product _ scale u
  imaginary-product (Px1 c) ne = part-is-product _ scale u
  imaginary-product (Px2 c) ne = part-is-product _ scale u
  imaginary-product (Control c) ne = part-is-product _ scale u

module _ (mode symbol : ℕ) (lower upper : Float) (g : Signal) (l : usable lower ≡ true) (u : usable upper ≡ true) where
  of_parts : Products mode symbol lower upper g (real_parts mode symbol lower upper g) (imaginary_parts mode symbol lower upper g)
  unfolding point_at
  of_parts =
      record {
        real = λ k h ne d. real-is mode symbol lower upper g k h d ∙ real-product mode symbol g (scale_at lower upper k) (usable_at mode symbol lower upper g l u k) (source_of mode k) ne;
        imaginary = λ k h ne d.
            imaginary-is mode symbol lower upper g k h d ∙ imaginary-product mode symbol g (scale_at lower upper k) (usable_at mode symbol lower upper g l u k) (source_of mode k) ne;
      }

-- what a call that succeeds leaves
pub parts-products : (mode symbol : ℕ) (lower upper : Float) (g : Signal) (re im : List Float)
    → number_of (filled mode symbol lower upper g re im).answer ≡ 0
    → Products mode symbol lower upper g (filled mode symbol lower upper g re im).re (filled mode symbol lower upper g re im).im
parts-products mode symbol lower upper g re im n =
    let (m, l, u, e) = on-success mode symbol lower upper g re im n in
    subst (λ (v : Vector). Products mode symbol lower upper g v.re v.im) (sym e) (of_parts mode symbol lower upper g l u)

pub parts-exact : (mode symbol : ℕ) (lower upper : Float) (g : Signal) (re im : List Float)
    → number_of (filled mode symbol lower upper g re im).answer ≡ 0
    → Exact mode lower upper (filled mode symbol lower upper g re im).re (filled mode symbol lower upper g re im).im
parts-exact mode symbol lower upper g re im n =
    let (m, l, u, e) = on-success mode symbol lower upper g re im n in
    subst (λ (v : Vector). Exact mode lower upper v.re v.im) (sym e)
    (record { used = λ k h ne d. used-parts mode symbol lower upper g k h d ne; unused = λ k h s d. unused-parts mode symbol lower upper g k h d s })
