-- `pm::partition` meets its contract: the table is v. Assumes nothing.
use mathlib.Core.Path.{refl}
use Rattle.interleaving.specs.PM.{v}
use Rattle.interleaving.proofs.OncePM.{perm}
use Rattle.pm.proofs.partition.Goals as goal

pub returns : goal.returns
unfolding v
returns c = (refl, perm.v-lt c.args.s c.requires)
