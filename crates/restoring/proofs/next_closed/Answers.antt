use native.Mathlib.Omega.{arith}
use Rattle.restoring.proofs.Loops.{closed-there, closed-more, closed_none}
use Rattle.restoring.proofs.next_closed.Goals as goal

pub loop-e-init : goal.loop-e-init
loop-e-init c = (omega arith, c.requires.0, λ cells h d a b. absurd (omega arith))

pub returns-then-holds : goal.returns-then-holds
returns-then-holds c =
    let a = c.args in
    let loop = c.loop-e in
    λ cells h. closed-there cells a.kept.now h loop.e (omega arith) _ c.holds.ensures a.from loop.invariant.0 (loop.invariant.2 cells h) c.if-holds.true

pub loop-e-preserved : goal.loop-e-preserved
loop-e-preserved c =
    let loop = c.loop-e in
    let a = c.args in (
      omega (arith, loop.invariant.0),
      omega arith,
      λ cells h. closed-more cells a.kept.now h loop.e (omega arith) _ c.holds.ensures a.from (loop.invariant.2 cells h) c.if-holds.false,
    )

pub returns : goal.returns
returns c = λ cells h. closed_none cells c.args.from c.loop-e.e c.requires.0 (omega (arith, c.loop-e.invariant.1)) (c.loop-e.invariant.2 cells h)
