-- Every part of a vector that was filled is zero or, with either sign, as many times 2^-16 as the scale of its sideband. Assumes nothing.
use mathlib.Core.Path.{◌≡◌, refl, sym, ap, subst, ◌∙◌}
use mathlib.Core.Logic.{◌⊎◌, inl, inr, ◌≢◌}
use mathlib.Core.Bool.{Bool, true, false, cond, not, ◌&&◌, true≢false}
use mathlib.Core.List.{List}
use Prim.Native.Nat.{ℕ, zero, suc, ◌*◌, ◌<◌}
use native.Mathlib.Nat.{zero-mul}
use native.Mathlib.Omega.{arith}
use lib.Dec.{ltb}
use lib.ListN.{get_or}
use lib.Ieee.{Float, binary32, nan, inf, fin, fits, up, down, lt, neg}
use lib.Ieee.Exact.{HasValue}
use borrow.Author.Tests.{ltb-true}
use Rattle.bits.proofs.Tests.{and-true}
use Rattle.runs.specs.Answers.{number_of}
use Rattle.runs.specs.Lent.{Signal}
use Rattle.points.specs.Points.{usable, zero_part}
use Rattle.subcarriers.specs.declared.Source.{Source}
use Rattle.subcarriers.specs.declared.Source.TheVariants.{Unused, Pm, Px1, Px2, Control}
use Rattle.subcarriers.specs.Tables.{source_of}
use Rattle.mapping.specs.Vector.{Vector, filled, scale_at}
use Rattle.mapping.proofs.VectorCases.{on-success}
use Rattle.unmapping.specs.Exact.{Exact, ScaleOrNegation}
use Rattle.unmapping.proofs.Exact.{parts-exact}
use Rattle.vector_step.specs.Shown.{Printable, Shows, times_at}

-- a usable scale is above zero
above : (times : ℕ) (scale : Float) → usable scale ≡ true → HasValue scale false times 65536 → 0 < times
unfolding usable lt
above times nan u h = absurd h
above times (inf s) u h = absurd h
above times (fin true m e) u h = absurd (true≢false h.0)
above zero (fin false m e) u h =
    let s : Float = fin false m e in
    let t : 0 * 1 * down e < m * up e * 1
    = ltb-true _ _ (and-true (lt zero_part s) (lt s (inf false)) (and-true (fits binary32 s) (lt zero_part s && lt s (inf false)) u).1).0 in
    absurd (omega (arith, t, h.1, zero-mul (down e)))
above (suc times) (fin false m e) u h = omega arith

negated : (times : ℕ) (scale : Float) → HasValue scale false times 65536 → HasValue (neg scale) true times 65536
unfolding neg
negated times nan h = h
negated times (inf s) h = h
negated times (fin s m e) h = (ap not h.0, h.1)

module _ (times : ℕ) (scale : Float) (u : usable scale ≡ true) (h : HasValue scale false times 65536) where
  pub either-sign : (part : Float) → ScaleOrNegation scale part → Shows times part
  either-sign part (inl e) = inr (record { sign = false; above = above times scale u h; worth = subst (λ (x : Float). HasValue x false times 65536) (sym e) h })
  either-sign part (inr e) =
      inr (record { sign = true; above = above times scale u h; worth = subst (λ (x : Float). HasValue x true times 65536) (sym e) (negated times scale h) })

carries : Source → Bool
carries Unused = false
carries (Pm c) = true
carries (Px1 c) = true
carries (Px2 c) = true
carries (Control c) = true

is-unused : (s : Source) → (s ≡ Unused) ⊎ (s ≢ Unused)
unfolding carries
is-unused Unused = inl refl
is-unused (Pm c) = inr (λ e. true≢false (ap carries e))
is-unused (Px1 c) = inr (λ e. true≢false (ap carries e))
is-unused (Px2 c) = inr (λ e. true≢false (ap carries e))
is-unused (Control c) = inr (λ e. true≢false (ap carries e))

module _ (mode symbol : ℕ) (lower upper : Float) (g : Signal) (re im : List Float) (times1 times2 : ℕ)
    (n : number_of (filled mode symbol lower upper g re im).answer ≡ 0)
    (low : HasValue lower false times1 65536) (high : HasValue upper false times2 65536) where
  x : Exact mode lower upper (filled mode symbol lower upper g re im).re (filled mode symbol lower upper g re im).im
  x = parts-exact mode symbol lower upper g re im n

  by_side : (k : ℕ) (part : Float) → ScaleOrNegation (scale_at lower upper k) part → Shows (times_at times1 times2 k) part
  by_side k part e =
      let (m, l, u, v) = on-success mode symbol lower upper g re im n in
      go (ltb k 546) l u e
    where
      go : (b : Bool) → usable lower ≡ true → usable upper ≡ true → ScaleOrNegation (cond b lower upper) part → Shows (cond b times1 times2) part
      go true l u e = either-sign times1 lower l low part e
      go false l u e = either-sign times2 upper u high part e

  printable : Printable times1 times2 (filled mode symbol lower upper g re im).re (filled mode symbol lower upper g re im).im
  printable = record { real = λ k h. real k h (is-unused (source_of mode k)); imaginary = λ k h. imaginary k h (is-unused (source_of mode k)) }
    where
      real : (k : ℕ) → k < 1093 → (source_of mode k ≡ Unused) ⊎ (source_of mode k ≢ Unused) → Shows (times_at times1 times2 k) (get_or (filled mode symbol lower upper g re im).re k nan)
      real k h (inl e) = inl (x.unused k h e nan).0
      real k h (inr ne) = by_side k _ (x.used k h ne nan).0

      imaginary : (k : ℕ) → k < 1093 → (source_of mode k ≡ Unused) ⊎ (source_of mode k ≢ Unused) → Shows (times_at times1 times2 k) (get_or (filled mode symbol lower upper g re im).im k nan)
      imaginary k h (inl e) = inl (x.unused k h e nan).1
      imaginary k h (inr ne) = by_side k _ (x.used k h ne nan).1

pub can-print : (mode symbol : ℕ) (lower upper : Float) (g : Signal) (re im : List Float) (times1 times2 : ℕ) (v : Vector)
    → v ≡ filled mode symbol lower upper g re im → number_of v.answer ≡ 0 → HasValue lower false times1 65536 → HasValue upper false times2 65536
    → Printable times1 times2 v.re v.im
can-print mode symbol lower upper g re im times1 times2 v e z low high =
    subst (λ (w : Vector). Printable times1 times2 w.re w.im) (sym e)
    (printable mode symbol lower upper g re im times1 times2 (sym (ap (λ (w : Vector). number_of w.answer) e) ∙ z) low high)
