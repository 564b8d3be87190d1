use mathlib.Core.Path.{sym, ◌∙◌}
use mathlib.Core.Bool.{true}
use native.Mathlib.Omega.{arith}
use Rattle.sheetinputs.proofs.Empty.{empty-here, empty-later, empty-nowhere}
use Rattle.sheetinputs.proofs.inputs.empty_line.Goals as goal

pub loop-i-init : goal.loop-i-init
loop-i-init c = (omega arith, omega arith)

pub returns-then-ends : goal.returns-then-ends
returns-then-ends c =
    (omega (arith, c.loop-i.invariant.1, empty-here c.args.input.now c.loop-i.i c.loop-i.fresh c.loop-i-test.true _ c.empty_at.ensures.0 (sym c.ends.ensures ∙ c.if-ends.true)), c.loop-i.invariant.0)

pub loop-i-preserved : goal.loop-i-preserved
loop-i-preserved c =
    (omega (arith, c.loop-i-test.true), omega (arith, c.loop-i.invariant.1, empty-later c.args.input.now c.loop-i.i c.loop-i.fresh c.loop-i-test.true _ c.empty_at.ensures.0 (sym c.ends.ensures ∙ c.if-ends.false)))

pub returns : goal.returns
returns c =
    (omega (arith, c.loop-i.invariant.1, empty-nowhere c.args.input.now c.loop-i.i c.loop-i.fresh c.loop-i-test.false), omega arith)
