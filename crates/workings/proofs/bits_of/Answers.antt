-- `bits_of` meets its contract: the laws of `Sizes`. Assumes nothing.
use native.Mathlib.Omega.{arith}
use Rattle.workings.proofs.Sizes.{bits-p1, bits-pids, bits-extended}
use Rattle.workings.proofs.bits_of.Goals as goal

pub returns-then-channel-eq1 : goal.returns-then-channel-eq1
returns-then-channel-eq1 c = (bits-p1 _ _ c.if-channel-eq1.true, omega arith)

pub returns-then-channel-eq2 : goal.returns-then-channel-eq2
returns-then-channel-eq2 c = (bits-pids _ _ c.if-channel-eq1.false c.if-channel-eq2.true, omega arith)

pub returns : goal.returns
returns c =
    (bits-extended _ _ c.if-channel-eq1.false c.if-channel-eq2.false _ c.kind_of_number.ensures _ c.columns.ensures.0, omega (arith, c.columns.ensures.1))
