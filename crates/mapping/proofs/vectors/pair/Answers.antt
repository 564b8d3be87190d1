-- `pair` meets its contract. Assumes nothing.
use mathlib.Core.Path.{ap₂, ◌∙◌}
use Prim.Native.Nat.{ℕ}
use native.Mathlib.Omega.{arith}
use Rattle.points.specs.Points.{point_of}
use Rattle.mapping.proofs.vectors.pair.Goals as goal

pub overflow_add-n : goal.overflow_add-n
overflow_add-n c = omega (arith, c.requires)

pub returns : goal.returns
returns c = c.constellation.ensures ∙ ap₂ (λ (i q : ℕ). point_of i q c.args.scale) c.get.ensures c.get-2.ensures
