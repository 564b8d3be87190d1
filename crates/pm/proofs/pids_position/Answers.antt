-- `pm::pids_position` meets its contract: the law `pids-position`. Assumes nothing.
use mathlib.Core.Path.{◌∙◌}
use Rattle.pm.proofs.Cells.{pids-position}
use Rattle.pm.proofs.pids_position.Goals as goal

pub returns : goal.returns
returns c = c.spot.ensures ∙ pids-position _ _ c.partition-p.ensures.0
