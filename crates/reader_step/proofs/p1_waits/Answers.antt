-- `p1_waits` meets its contract. Assumes nothing.
use native.Mathlib.Omega.{arith}
use lib.ListN.{length}
use Rattle.reader_step.proofs.Written.{p1-early, p1-late}
use Rattle.reader_step.proofs.p1_waits.Goals as goal

pub returns-then-age-lt3 : goal.returns-then-age-lt3
returns-then-age-lt3 c = p1-early c.args.age (length c.args.delay.now) (omega (arith, c.if-age-lt3.true))

pub returns : goal.returns
returns c = p1-late c.args.age (length c.args.delay.now) (omega (arith, c.if-age-lt3.false))
