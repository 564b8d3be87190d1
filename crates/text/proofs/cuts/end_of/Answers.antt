use native.Mathlib.Omega.{arith}
use Rattle.text.proofs.Ends.{end-here, end_later, end-nowhere}
use Rattle.text.proofs.cuts.end_of.Goals as goal

pub returns-then-text-i : goal.returns-then-text-i
returns-then-text-i c =
    let a = c.args in
    let e = end-here a.separator a.text.now c.loop-i.i c.loop-i-test.true c.if-text-i.true in
    omega (arith, c.loop-i.invariant.1, e)

pub loop-i-preserved : goal.loop-i-preserved
loop-i-preserved c =
    let a = c.args in
    let e = end_later a.separator a.text.now c.loop-i.i c.loop-i-test.true c.if-text-i.false in
    omega (arith, c.loop-i.invariant.1, e)

pub returns : goal.returns
returns c =
    let a = c.args in
    let e = end-nowhere a.separator a.text.now c.loop-i.i c.loop-i-test.false in
    omega (arith, c.loop-i.invariant.1, e)
