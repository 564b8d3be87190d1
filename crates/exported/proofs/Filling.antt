-- What filling a vector answers fits its word, and the word with the vector is what the definition leaves. Assumes nothing.
use mathlib.Core.Path.{◌≡◌, refl, sym, ap, subst, ◌∙◌}
use mathlib.Core.Bool.{Bool, true, false, not}
use mathlib.Core.List.{List}
use Prim.Native.Nat.{ℕ, ◌^◌, ◌<◌}
use native.Mathlib.Omega.{arith}
use lib.Dec.{ltb}
use lib.Ieee.{Float}
use Rattle.runs.specs.declared.Answer.{Answer}
use Rattle.runs.specs.declared.Answer.TheVariants.{Success, ModeNotCovered, SymbolTooHigh, ScaleNotUsable}
use Rattle.runs.specs.Answers.{place_of}
use Rattle.runs.specs.Causes.{when}
use Rattle.runs.specs.Lent.{Signal}
use Rattle.runs.proofs.Answered.{on_both}
use Rattle.runs.proofs.Places.{Small, met, not-met, end, and, judged, small-lengths, small-when}
use Rattle.points.specs.Points.{usable}
use Rattle.subcarriers.specs.Tables.{mapped}
use Rattle.mapping.specs.Vector.{Vector, admitted, answer_of, filled, imaginary_parts, real_parts, vector, vector_sizes}
use Rattle.exported.specs.Left.{vector_left, vector_left_by}
use Rattle.words.specs.Words.{answer_word}

-- the place of a scale is 0 or 1
small-scale : (t : Bool) (k : ℕ) → k < 2 → Small (when t (ScaleNotUsable k))
small-scale true k h = met (ScaleNotUsable k) (omega arith)
small-scale false k h = not-met

fill-place : (mode symbol : ℕ) (lower upper : Float) (g : Signal) (re im : List Float) → place_of (filled mode symbol lower upper g re im).answer < 2 ^ 24
unfolding filled answer_of admitted vector_sizes
fill-place mode symbol lower upper g re im =
    on_both (λ (v : Vector). place_of v.answer < 2 ^ 24) _ (vector Success (real_parts mode symbol lower upper g) (imaginary_parts mode symbol lower upper g)) _ (omega arith)
    (judged (and (small-when (not (mapped mode)) ModeNotCovered refl)
    (and (small-lengths (vector_sizes mode g re im) (omega arith))
    (and (small-when (not (ltb symbol 512)) SymbolTooHigh refl)
    (and (small-scale (not (usable lower)) 0 (omega arith))
    (and (small-scale (not (usable upper)) 1 (omega arith)) end))))))

module _ (answer : Answer) (mode symbol : ℕ) (lower upper : Float) (g : Signal) (re im re' im' : List Float)
    (e : vector answer re' im' ≡ filled mode symbol lower upper g re im) where
  pub vector-small : place_of answer < 2 ^ 32
  vector-small =
      let small = subst (λ (v : Vector). place_of v.answer < 2 ^ 24) (sym e) (fill-place mode symbol lower upper g re im) in
      omega (arith, small)

  pub vector-left : (word : ℕ) → word ≡ answer_word answer → vector_left word re' im' ≡ vector_left_by (filled mode symbol lower upper g re im)
  vector-left word a = ap (λ (n : ℕ). vector_left n re' im') a ∙ ap vector_left_by e
