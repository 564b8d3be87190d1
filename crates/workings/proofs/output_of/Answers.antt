-- `output_of` meets its contract: the laws `two-fifths` and `half`. Assumes nothing.
use Rattle.workings.proofs.Outputs.{two-fifths, half}
use Rattle.workings.proofs.output_of.Goals as goal

pub returns-in-TwoFifths : goal.returns-in-TwoFifths
returns-in-TwoFifths c = rw c.in-TwoFifths.is (two-fifths c.args.m)

pub returns-in-Half : goal.returns-in-Half
returns-in-Half c = rw c.in-Half.is (half c.args.m)
