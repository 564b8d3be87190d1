-- S-7: nothing is rounded. A part of a used element is a unit of either sign, by its cell, times the scale of its sideband, as IEEE 754 multiplies in single precision:
-- the scale or its negation. A part of an unused one is positive zero.
use Rattle.std.specs.Prelude.{◌≡◌, ◌⊎◌, ◌≢◌, List, ℕ, ◌+◌, ◌*◌, ◌<◌, get_or, Float}
use Rattle.std.specs.Float.{binary32}
use Rattle.std.specs.Float.Ieee.{mul, neg}
use Rattle.bits.specs.Bits.{bit_at}
use Rattle.runs.specs.declared.Extended.TheVariants.{P3, P4}
use Rattle.runs.specs.Lengths.{kind_of}
use Rattle.runs.specs.Lent.{Signal}
use Rattle.subcarriers.specs.declared.Source.{Source}
use Rattle.subcarriers.specs.declared.Source.TheVariants.{Unused, Pm, Px1, Px2, Control}
use Rattle.points.specs.Points.{unit, zero_part}
use Rattle.subcarriers.specs.Tables.{source_of}
use Rattle.mapping.specs.Vector.{points, scale_at, width}

abbrev pub ScaleOrNegation : (scale part : Float) → Type 0
ScaleOrNegation scale part = (part ≡ scale) ⊎ (part ≡ neg scale)

-- other is what is read past the end of a list, which no k below 1,093 is
pub record Exact (mode : ℕ) (lower upper : Float) (re im : List Float) : Type 0 where
  pub used : (k : ℕ) → k < points → source_of mode k ≢ Unused → (other : Float)
      → ScaleOrNegation (scale_at lower upper k) (get_or re k other) × ScaleOrNegation (scale_at lower upper k) (get_or im k other)
  pub unused : (k : ℕ) → k < points → source_of mode k ≡ Unused → (other : Float) → (get_or re k other ≡ zero_part) × (get_or im k other ≡ zero_part)

-- 12.2: the cell that gives the real part of what a source names in row `symbol`, I, and the one that gives the imaginary part, Q: the first and the second of a
-- pair of PM, PX1 or PX2, and the one cell of the control for both. An unused element has neither
abbrev pub in_phase : (mode symbol : ℕ) → Signal → Source → ℕ
in_phase mode symbol g Unused = 0
in_phase mode symbol g (Pm c) = bit_at g.matrices.pm (symbol * 720 + c)
in_phase mode symbol g (Px1 c) = bit_at g.matrices.px1 (symbol * width (kind_of mode P3) + c)
in_phase mode symbol g (Px2 c) = bit_at g.matrices.px2 (symbol * width (kind_of mode P4) + c)
in_phase mode symbol g (Control c) = bit_at g.control (symbol * 64 + c)

abbrev pub quadrature : (mode symbol : ℕ) → Signal → Source → ℕ
quadrature mode symbol g Unused = 0
quadrature mode symbol g (Pm c) = bit_at g.matrices.pm (symbol * 720 + c + 1)
quadrature mode symbol g (Px1 c) = bit_at g.matrices.px1 (symbol * width (kind_of mode P3) + c + 1)
quadrature mode symbol g (Px2 c) = bit_at g.matrices.px2 (symbol * width (kind_of mode P4) + c + 1)
quadrature mode symbol g (Control c) = bit_at g.control (symbol * 64 + c)

-- each part of a used element is the unit of its cell, 1 for a 1 and -1 for a 0, times the scale of its sideband
pub record Products (mode symbol : ℕ) (lower upper : Float) (g : Signal) (re im : List Float) : Type 0 where
  pub real : (k : ℕ) → k < points → source_of mode k ≢ Unused → (other : Float)
      → get_or re k other ≡ mul binary32 (unit (in_phase mode symbol g (source_of mode k))) (scale_at lower upper k)
  pub imaginary : (k : ℕ) → k < points → source_of mode k ≢ Unused → (other : Float)
      → get_or im k other ≡ mul binary32 (unit (quadrature mode symbol g (source_of mode k))) (scale_at lower upper k)
