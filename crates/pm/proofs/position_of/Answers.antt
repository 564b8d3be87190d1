-- `pm::position_of` meets its contract: it is `position_at` as it stands. Assumes nothing.
use mathlib.Core.Path.{refl}
use Rattle.interleaving.specs.Matrix.{position_at}
use Rattle.pm.proofs.position_of.Goals as goal

pub returns : goal.returns
unfolding position_at
returns c = refl
