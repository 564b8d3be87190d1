-- After every filling that succeeds the cells come back from the vector by sign. Assumes nothing.
use mathlib.Core.Path.{◌≡◌, sym, ap, subst, ◌∙◌}
use mathlib.Core.Bool.{Bool, true, false, cond}
use mathlib.Core.List.{List}
use Prim.Native.Nat.{ℕ, ◌+◌, ◌*◌, ◌<◌}
use lib.Dec.{ltb}
use lib.Ieee.{Float}
use Rattle.bits.specs.Bits.{bit_at}
use Rattle.bits.proofs.Listed.{get_or-listed}
use Rattle.bits.proofs.Packed.{bit_at_lt}
use Rattle.runs.specs.declared.Extended.TheVariants.{P3, P4}
use Rattle.runs.specs.Answers.{number_of}
use Rattle.runs.specs.Lengths.{kind_of}
use Rattle.runs.specs.Lent.{Signal}
use Rattle.points.specs.declared.Point.{Point}
use Rattle.subcarriers.specs.declared.Source.{Source}
use Rattle.subcarriers.specs.declared.Source.TheVariants.{Pm, Px1, Px2, Control}
use Rattle.unmapping.specs.Back.{At, CellsBack, column_at, element_at, reference_at, signs}
use Rattle.points.specs.Points.{by_sign, point_of, usable, zero_part}
use Rattle.subcarriers.specs.Tables.{mapped, source_of}
use Rattle.mapping.specs.Vector.{Vector, filled, imaginary_parts, point_at, point_for, points, real_parts, scale_at, width}
use Rattle.unmapping.proofs.Signs.{sign-back}
use Rattle.unmapping.proofs.TablesOnce.{at-most-once, pm-at, px1-at, px2-at}
use Rattle.mapping.proofs.VectorCases.{on-success}

module _ (mode symbol : ℕ) (lower upper : Float) (g : Signal) (l : usable lower ≡ true) (u : usable upper ≡ true) where
  pub usable_at : (k : ℕ) → usable (scale_at lower upper k) ≡ true
  usable_at k = go (ltb k 546)
    where
      go : (b : Bool) → usable (cond b lower upper) ≡ true
      go true = l
      go false = u

  -- an element's signs are the bits of what it carries
  module _ (k i q : ℕ) (h : k < points) (a : i < 2) (b : q < 2) (e : point_at mode symbol lower upper g k ≡ point_of i q (scale_at lower upper k)) where
    real-sign : signs (real_parts mode symbol lower upper g) k ≡ i
    unfolding point_of
    real-sign =
        ap by_sign (get_or-listed points (λ j. (point_at mode symbol lower upper g j).re) k zero_part h ∙ ap (λ (p : Point). p.re) e)
        ∙ sign-back (scale_at lower upper k) (usable_at k) i a

    imaginary-sign : signs (imaginary_parts mode symbol lower upper g) k ≡ q
    unfolding point_of
    imaginary-sign =
        ap by_sign (get_or-listed points (λ j. (point_at mode symbol lower upper g j).im) k zero_part h ∙ ap (λ (p : Point). p.im) e)
        ∙ sign-back (scale_at lower upper k) (usable_at k) q b

  point-is : (k : ℕ) (s : Source) → source_of mode k ≡ s
      → point_at mode symbol lower upper g k ≡ point_for symbol (width (kind_of mode P3)) (width (kind_of mode P4)) g s (scale_at lower upper k)
  unfolding point_at
  point-is k s e = ap (λ (x : Source). point_for symbol (width (kind_of mode P3)) (width (kind_of mode P4)) g x (scale_at lower upper k)) e

  abbrev Signs : (k i q : ℕ) → Type 0
  Signs k i q = (signs (real_parts mode symbol lower upper g) k ≡ i) × (signs (imaginary_parts mode symbol lower upper g) k ≡ q)

  at-pm : (c : ℕ) (p : At mode (Pm c)) → Signs p.place (bit_at g.matrices.pm (symbol * 720 + c)) (bit_at g.matrices.pm (symbol * 720 + c + 1))
  unfolding point_for
  at-pm c p =
      let e = point-is p.place (Pm c) p.carries in
      (real-sign p.place _ _ p.inside (bit_at_lt _ _) (bit_at_lt _ _) e, imaginary-sign p.place _ _ p.inside (bit_at_lt _ _) (bit_at_lt _ _) e)

  at-px1 : (c : ℕ) (p : At mode (Px1 c))
      → Signs p.place (bit_at g.matrices.px1 (symbol * width (kind_of mode P3) + c)) (bit_at g.matrices.px1 (symbol * width (kind_of mode P3) + c + 1))
  unfolding point_for
  at-px1 c p =
      let e = point-is p.place (Px1 c) p.carries in
      (real-sign p.place _ _ p.inside (bit_at_lt _ _) (bit_at_lt _ _) e, imaginary-sign p.place _ _ p.inside (bit_at_lt _ _) (bit_at_lt _ _) e)

  at-px2 : (c : ℕ) (p : At mode (Px2 c))
      → Signs p.place (bit_at g.matrices.px2 (symbol * width (kind_of mode P4) + c)) (bit_at g.matrices.px2 (symbol * width (kind_of mode P4) + c + 1))
  unfolding point_for
  at-px2 c p =
      let e = point-is p.place (Px2 c) p.carries in
      (real-sign p.place _ _ p.inside (bit_at_lt _ _) (bit_at_lt _ _) e, imaginary-sign p.place _ _ p.inside (bit_at_lt _ _) (bit_at_lt _ _) e)

  at-control : (k c : ℕ) → k < points → source_of mode k ≡ Control c → Signs k (bit_at g.control (symbol * 64 + c)) (bit_at g.control (symbol * 64 + c))
  unfolding point_for
  at-control k c h s =
      let e = point-is k (Control c) s in
      (real-sign k _ _ h (bit_at_lt _ _) (bit_at_lt _ _) e, imaginary-sign k _ _ h (bit_at_lt _ _) (bit_at_lt _ _) e)

  pub back-by-sign : mapped mode ≡ true → CellsBack mode symbol g (real_parts mode symbol lower upper g) (imaginary_parts mode symbol lower upper g)
  back-by-sign v =
      record {
        pm-back = λ c h. let p = pm-at mode v c h in let (a, b) = at-pm (2 * c) p in (p, a, b);
        px1-back = λ c h. let p = px1-at mode v c h in let (a, b) = at-px1 (2 * c) p in (p, a, b);
        px2-back = λ c h. let p = px2-at mode v c h in let (a, b) = at-px2 (2 * c) p in (p, a, b);
        control-back = λ n h. let (a, s) = (at-most-once mode v).references n h in at-control (element_at (reference_at mode n)) (column_at (reference_at mode n)) a s;
      }

-- what a call that succeeds leaves
pub cells-back : (mode symbol : ℕ) (lower upper : Float) (g : Signal) (re im : List Float)
    → number_of (filled mode symbol lower upper g re im).answer ≡ 0
    → CellsBack mode symbol g (filled mode symbol lower upper g re im).re (filled mode symbol lower upper g re im).im
cells-back mode symbol lower upper g re im n =
    let (cov, l, u, e) = on-success mode symbol lower upper g re im n in
    subst (λ (v : Vector). CellsBack mode symbol g v.re v.im) (sym e) (back-by-sign mode symbol lower upper g l u cov)
