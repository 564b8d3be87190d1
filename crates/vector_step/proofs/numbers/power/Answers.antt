-- `power` meets its contract: the table has the powers of ten. Assumes nothing.
use Rattle.vector_step.proofs.Digits.{power-is, powers}
use Rattle.vector_step.proofs.numbers.power.Goals as goal

pub returns : goal.returns
unfolding powers
returns c = power-is c.args.k c.requires
