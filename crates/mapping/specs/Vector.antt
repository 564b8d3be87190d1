-- Section 12: the output vector of a symbol, and what filling it answers.
use Rattle.std.specs.Prelude.{ℕ, ◌+◌, ◌*◌, cond, not, List, [], ◌∷◌, ltb, length, Float}
use Rattle.std.proofs.Math.Option.{Option}
use Rattle.bits.specs.Bits.{bit_at}
use Rattle.bits.specs.Listed.{listed}
use Rattle.runs.specs.declared.Extended.TheVariants.{P3, P4}
use Rattle.runs.specs.declared.Kind.{Kind}
use Rattle.runs.specs.declared.Kind.TheVariants.{Unused, Narrow, Wide}
use Rattle.runs.specs.Lengths.{control_len, kind_of, matrix_len, pm_len}
use Rattle.runs.specs.declared.Answer.{Answer}
use Rattle.runs.specs.declared.Answer.TheVariants.{Success, ModeNotCovered, WrongLength, SymbolTooHigh, ScaleNotUsable}
use Rattle.runs.specs.Answers.{on_success}
use Rattle.runs.specs.Causes.{Size, at, judge, size, when, wrong}
use Rattle.runs.specs.Lent.{Signal}
use Rattle.points.specs.declared.Point.{Point}
use Rattle.subcarriers.specs.declared.Source.{Source}
use Rattle.subcarriers.specs.declared.Source.TheVariants.{Unused as unused, Pm, Px1, Px2, Control}
use Rattle.points.specs.Points.{no_point, point_of, usable}
use Rattle.subcarriers.specs.Tables.{mapped, source_of}

-- the cells of a row of PX1 or PX2 (document 01)
abbrev pub width : Kind → ℕ
width Unused = 0
width Narrow = 72
width Wide = 144

-- 12.2: the bits are those of row `symbol` of each matrix and of R; PX1 and PX2 have rows of so many cells (docs/DECISIONS.md D69)
unfoldable pub point_for : (symbol width1 width2 : ℕ) → Signal → Source → Float → Point
point_for symbol width1 width2 g unused scale = no_point
point_for symbol width1 width2 g (Pm c) scale =
    point_of (bit_at g.matrices.pm (symbol * 720 + c)) (bit_at g.matrices.pm (symbol * 720 + c + 1)) scale
point_for symbol width1 width2 g (Px1 c) scale =
    point_of (bit_at g.matrices.px1 (symbol * width1 + c)) (bit_at g.matrices.px1 (symbol * width1 + c + 1)) scale
point_for symbol width1 width2 g (Px2 c) scale =
    point_of (bit_at g.matrices.px2 (symbol * width2 + c)) (bit_at g.matrices.px2 (symbol * width2 + c + 1)) scale
point_for symbol width1 width2 g (Control c) scale =
    point_of (bit_at g.control (symbol * 64 + c)) (bit_at g.control (symbol * 64 + c)) scale

-- Tables 5-1 and 5-2: one scale for the lower sideband and one for the upper, extended parts included (docs/DECISIONS.md D68)
abbrev pub scale_at : (lower upper : Float) → ℕ → Float
scale_at lower upper k = cond (ltb k 546) lower upper

-- element k of the vector
unfoldable pub point_at : (mode symbol : ℕ) (lower upper : Float) → Signal → ℕ → Point
point_at mode symbol lower upper g k =
    point_for symbol (width (kind_of mode P3)) (width (kind_of mode P4)) g (source_of mode k) (scale_at lower upper k)

abbrev pub points : ℕ
points = 1093

abbrev pub real_parts : (mode symbol : ℕ) (lower upper : Float) → Signal → List Float
real_parts mode symbol lower upper g = listed points (λ k. (point_at mode symbol lower upper g k).re)

abbrev pub imaginary_parts : (mode symbol : ℕ) (lower upper : Float) → Signal → List Float
imaginary_parts mode symbol lower upper g = listed points (λ k. (point_at mode symbol lower upper g k).im)

-- ---- refusals

-- the lengths, in the order PM, PX1, PX2, control, real parts, imaginary parts; the last two count numbers
unfoldable pub vector_sizes : ℕ → Signal → (re im : List Float) → List Size
vector_sizes mode g re im =
    size (length g.matrices.pm) pm_len ∷ size (length g.matrices.px1) (matrix_len (kind_of mode P3))
    ∷ size (length g.matrices.px2) (matrix_len (kind_of mode P4)) ∷ size (length g.control) control_len
    ∷ size (length re) points ∷ size (length im) points ∷ []

-- S-7: the causes in their order, from the first wrong length, if there is one
unfoldable pub admitted : (mode symbol : ℕ) (lower upper : Float) → Option ℕ → Answer
admitted mode symbol lower upper place =
    judge
    (when (not (mapped mode)) ModeNotCovered
    ∷ at WrongLength place
    ∷ when (not (ltb symbol 512)) SymbolTooHigh
    ∷ when (not (usable lower)) (ScaleNotUsable 0)
    ∷ when (not (usable upper)) (ScaleNotUsable 1)
    ∷ [])

unfoldable pub answer_of : (mode symbol : ℕ) (lower upper : Float) → Signal → (re im : List Float) → Answer
answer_of mode symbol lower upper g re im = admitted mode symbol lower upper (wrong 0 (vector_sizes mode g re im))

-- what filling gives: its answer, and the vector as it leaves it
pub record Vector : Type 0 where
  pub answer : Answer
  pub re : List Float
  pub im : List Float

-- a refusal leaves the vector
unfoldable pub filled : (mode symbol : ℕ) (lower upper : Float) → Signal → (re im : List Float) → Vector
filled mode symbol lower upper g re im =
    on_success (answer_of mode symbol lower upper g re im)
    (record { answer = Success; re = real_parts mode symbol lower upper g; im = imaginary_parts mode symbol lower upper g })
    (record { answer = answer_of mode symbol lower upper g re im; re = re; im = im })

-- the parts of a call, gathered
abbrev pub vector : Answer → (re im : List Float) → Vector
vector answer re im = record { answer = answer; re = re; im = im }
