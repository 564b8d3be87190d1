-- `pm::order` meets its contract: the constant is `v`. Assumes nothing.
use mathlib.Core.Path.{refl}
use Rattle.interleaving.specs.PM.{v}
use Rattle.pm.proofs.order.Goals as goal

pub returns : goal.returns
unfolding v
returns c = refl
