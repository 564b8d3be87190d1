-- `single` meets its contract. Assumes nothing.
use mathlib.Core.Path.{ap, ◌∙◌}
use Prim.Native.Nat.{ℕ}
use Rattle.points.specs.Points.{point_of}
use Rattle.mapping.proofs.vectors.single.Goals as goal

pub returns : goal.returns
returns c = c.constellation.ensures ∙ ap (λ (i : ℕ). point_of i i c.args.scale) c.get-bit.ensures
