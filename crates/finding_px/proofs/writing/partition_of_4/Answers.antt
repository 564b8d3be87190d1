-- `writing::partition_of_4` meets its contract: the table is v4. Assumes nothing.
use mathlib.Core.Path.{refl}
use Rattle.interleaving.specs.PX.{v4}
use Rattle.interleaving.proofs.PXKinds.{perm4}
use Rattle.finding_px.proofs.writing.partition_of_4.Goals as goal

pub returns : goal.returns
unfolding v4
returns c = (refl, perm4.v-lt c.args.s c.requires)
