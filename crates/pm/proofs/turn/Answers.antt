-- `pm::turn` meets its contract: the table is w. Assumes nothing.
use mathlib.Core.Path.{refl}
use Rattle.interleaving.specs.FinderPM.{w}
use Rattle.interleaving.proofs.OncePM.{perm}
use Rattle.pm.proofs.turn.Goals as goal

pub returns : goal.returns
unfolding w
returns c = (refl, perm.w-lt c.args.p c.requires)
