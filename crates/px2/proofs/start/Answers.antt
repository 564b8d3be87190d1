-- `px2::start` meets its contract. Assumes nothing.
use native.Mathlib.Omega.{arith}
use Rattle.px2.proofs.start.Goals as goal

pub returns : goal.returns
returns c = (c.from.ensures, omega (arith, c.from.ensures, c.requires.1.below c.args.n c.requires.0))
