-- `pm::p1_position` meets its contract: the law `p1-position`. Assumes nothing.
use mathlib.Core.Path.{◌∙◌}
use Rattle.pm.proofs.Cells.{p1-position}
use Rattle.pm.proofs.p1_position.Goals as goal

pub returns : goal.returns
returns c = c.spot.ensures ∙ p1-position _ _ c.partition-p.ensures.0
