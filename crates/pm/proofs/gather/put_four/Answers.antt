use native.Mathlib.Omega.{arith}
use Rattle.pm.proofs.BackLaws.{columns-at}
use borrow.Author.Rules.{rules}
use Rattle.pm.proofs.gather.put_four.Goals as goal

pub loop-i-init : goal.loop-i-init
loop-i-init c = (search rules, search rules, λ f b s d. columns-at _ d (omega arith))

pub loop-i-preserved : goal.loop-i-preserved
loop-i-preserved c =
    (search rules, search rules, λ f b s d. columns-at _ (c.put_column.ensures f b s (c.loop-i.invariant.2 f b s d)) (omega arith))

pub returns : goal.returns
returns c = λ f b s d. columns-at _ (c.loop-i.invariant.2 f b s d) (omega arith)
