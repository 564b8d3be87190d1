-- `back` meets its contract. Assumes nothing.
use mathlib.Core.Path.{refl}
use native.Mathlib.Nat.{mod-lt}
use native.Mathlib.Omega.{arith}
use Rattle.coding.specs.Coder.{back}
use Rattle.workings.proofs.back.Goals as goal

pub returns : goal.returns
unfolding back
returns c = (refl, mod-lt _ (omega arith))
