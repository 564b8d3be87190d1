-- `index_of` meets its contract: the definition is computed as it stands. Assumes nothing.
use mathlib.Core.Path.{refl}
use native.Mathlib.Omega.{arith}
use Rattle.interleaving.specs.InverseI.{k_at, turn}
use Rattle.finding_px.proofs.second.index_of.Goals as goal

pub returns : goal.returns
unfolding k_at turn
returns c = (refl, omega arith)
