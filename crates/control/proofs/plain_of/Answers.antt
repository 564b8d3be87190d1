-- `control::plain_of` meets its contract. Assumes nothing.
use native.Mathlib.Omega.{arith}
use Rattle.control.specs.Words.{plain}
use Rattle.control.proofs.plain_of.Goals as goal

pub returns : goal.returns
unfolding plain
returns c = omega arith
