use native.Mathlib.Omega.{arith}
use lib.ListN.{length-set}
use Rattle.transposing.proofs.Words.{begins-none, begins-turn}
use borrow.Author.Rules.{rules}
use Rattle.pm.proofs.scatter.shown_bits.Goals as goal

pub loop-i-init : goal.loop-i-init
loop-i-init c = (search rules, search rules, begins-none _ _)

pub loop-i-preserved : goal.loop-i-preserved
loop-i-preserved c =
    let inv = c.loop-i.invariant in
    (search rules, simp length-set inv.1, begins-turn _ inv.2 (omega arith) c.shown.ensures.0)

pub returns : goal.returns
returns c = record { is = λ q h. c.loop-i.invariant.2.is q (omega arith) }
