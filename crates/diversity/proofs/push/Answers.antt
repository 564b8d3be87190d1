use native.Mathlib.Omega.{arith}
use borrow.Author.Rules.{rules}
use Rattle.diversity.proofs.Moves.{moved_none, moved-turn, moved-push}
use Rattle.diversity.proofs.push.Goals as goal

pub loop-i-init : goal.loop-i-init
loop-i-init c = (search rules, moved_none _ _)

pub loop-i-preserved : goal.loop-i-preserved
loop-i-preserved c = (search rules, moved-turn c.loop-i.invariant.1 (omega arith))

pub returns : goal.returns
returns c =
    let l = c.loop-i in
    let a = c.args in
    moved-push a.px.now _ a.memory.now l.memory l.i l.invariant.1 (omega arith) (omega arith) c.copy.ensures
