-- `frames_in` meets its contract. Assumes nothing.
use native.Mathlib.Omega.{arith}
use borrow.Author.Tests.{eq-eqb, ne_eqb}
use Rattle.workings_in.specs.Shown.{frames_in}
use Rattle.workings_in.proofs.frames_in.Goals as goal

pub returns-then-channel-eq5 : goal.returns-then-channel-eq5
unfolding frames_in
returns-then-channel-eq5 c = (rw (eq-eqb _ _ c.if-channel-eq5.true), omega arith)

pub returns : goal.returns
unfolding frames_in
returns c = (rw (ne_eqb _ _ c.if-channel-eq5.false), omega arith)
