-- `empty_at` meets its contract. Assumes nothing.
use Prim.Native.Nat.{◌+◌}
use native.Mathlib.Omega.{arith}
use Rattle.sheetinputs.proofs.Empty.{at_both, at-newline, at_other, at_return, past_end}
use Rattle.sheetinputs.proofs.inputs.empty_at.Goals as goal

pub returns-then-input-at-eq10 : goal.returns-then-input-at-eq10
returns-then-input-at-eq10 c = (at-newline c.args.input.now c.args.at c.if-input-at-eq10.true, omega arith)

pub returns-then-input-at-ne13 : goal.returns-then-input-at-ne13
returns-then-input-at-ne13 c =
    (at_other c.args.input.now c.args.at c.if-input-at-eq10.false c.if-input-at-ne13.true, omega arith)

pub returns-then-next-input : goal.returns-then-next-input
returns-then-next-input c =
    (at_return c.args.input.now c.args.at c.if-input-at-eq10.false c.if-input-at-ne13.false (past_end c.args.input.now (c.args.at + 1) c.if-next-input.true), omega arith)

pub returns-then-input-next-eq10 : goal.returns-then-input-next-eq10
returns-then-input-next-eq10 c =
    (at_both c.args.input.now c.args.at c.if-input-at-eq10.false c.if-input-at-ne13.false c.if-input-next-eq10.true, omega arith)

pub returns : goal.returns
returns c =
    (at_return c.args.input.now c.args.at c.if-input-at-eq10.false c.if-input-at-ne13.false c.if-input-next-eq10.false, omega arith)
