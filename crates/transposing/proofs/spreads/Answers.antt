use native.Mathlib.Omega.{arith}
use lib.ListN.{length-set, length-replicate}
use Rattle.transposing.proofs.Words.{begins-none, begins-turn}
use borrow.Author.Rules.{rules}
use Rattle.transposing.proofs.spreads.Goals as goal

pub loop-x-init : goal.loop-x-init
loop-x-init g c = (search rules, length-replicate _ _, begins-none _ _)

pub loop-x-preserved : goal.loop-x-preserved
loop-x-preserved g c =
    let inv = c.loop-x.invariant in
    (search rules, simp length-set inv.1, begins-turn _ inv.2 (omega arith) c.spread.ensures)

pub returns : goal.returns
returns g c = record { is = λ q h. c.loop-x.invariant.2.is q (omega arith) }
