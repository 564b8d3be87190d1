-- `is_usable` meets its contract: the scale is an f32, and the two tests are the definition's, with zero and the infinity by their bit patterns. Assumes nothing.
use mathlib.Core.Path.{sym, ap₂}
use mathlib.Core.Bool.{Bool, false, ◌&&◌}
use lib.Ieee.{lt, inf, nan_bits, of_bits}
use Rattle.points.specs.Points.{usable}
use Rattle.points.proofs.is_usable.Goals as goal

pub float_from_bits-result : goal.float_from_bits-result
unfolding nan_bits
float_from_bits-result c = tt

pub returns-then-scale : goal.returns-then-scale
unfolding usable of_bits
returns-then-scale c = sym (ap₂ (λ (f t : Bool). f && (t && lt c.args.scale (inf false))) c.well_formed.0.1 c.if-scale.true)

pub returns : goal.returns
unfolding usable of_bits
returns c = sym (ap₂ (λ (f t : Bool). f && (t && lt c.args.scale (inf false))) c.well_formed.0.1 c.if-scale.false)
