-- `refused` meets its contract. Assumes nothing.
use mathlib.Core.Path.{refl}
use Rattle.workings.specs.Shown.{refused}
use Rattle.workings.proofs.refused.Goals as goal

pub returns : goal.returns
unfolding refused
returns c = refl
