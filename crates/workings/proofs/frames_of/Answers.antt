-- `frames_of` meets its contract: the laws of `Sizes`. Assumes nothing.
use native.Mathlib.Omega.{arith}
use Rattle.workings.proofs.Sizes.{frames-p1, frames-pids, frames-extended}
use Rattle.workings.proofs.frames_of.Goals as goal

pub returns-then-channel-eq1 : goal.returns-then-channel-eq1
returns-then-channel-eq1 c = (frames-p1 _ c.if-channel-eq1.true, omega arith)

pub returns-then-channel-eq2 : goal.returns-then-channel-eq2
returns-then-channel-eq2 c = (frames-pids _ c.if-channel-eq1.false c.if-channel-eq2.true, omega arith)

pub returns : goal.returns
returns c = (frames-extended _ c.if-channel-eq1.false c.if-channel-eq2.false, omega arith)
