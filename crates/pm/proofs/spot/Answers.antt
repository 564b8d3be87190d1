-- `pm::spot` meets its contract: it is `spot` as it stands. Assumes nothing.
use mathlib.Core.Path.{refl}
use Rattle.interleaving.specs.EquationsI.{row, column}
use Rattle.interleaving.specs.InverseI.{spot}
use Rattle.pm.proofs.spot.Goals as goal

pub returns : goal.returns
unfolding spot row column
returns c = refl
