-- `scale` meets its contract: a scale that is taken is a number of single precision. Assumes nothing.
use mathlib.Core.Path.{sym, ◌∙◌}
use Rattle.scales.proofs.Exactly.{single-typed}
use Rattle.vector.proofs.scale.Goals as goal

pub returns : goal.returns
returns c = λ times e. single-typed _ times (sym c.scale_of.ensures ∙ e)
