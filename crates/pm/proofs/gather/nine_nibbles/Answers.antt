use mathlib.Core.Path.{sym, ◌∙◌}
use native.Mathlib.Omega.{arith}
use lib.ListN.{length-set}
use Rattle.transposing.proofs.Words.{begins-at, begins-turn}
use borrow.Author.Rules.{rules}
use Rattle.pm.proofs.gather.nine_nibbles.Goals as goal

pub loop-x-init : goal.loop-x-init
loop-x-init c = (search rules, search rules, λ g e s. begins-at _ s (omega arith))

pub loop-x-preserved : goal.loop-x-preserved
loop-x-preserved c =
    let loop = c.loop-x in (
      search rules,
      simp length-set loop.invariant.1,
      λ g e s. begins-at _ (begins-turn _ (loop.invariant.2 g e s) (omega arith) (c.nibble.ensures ∙ sym (e loop.x (omega arith)))) (omega arith),
    )

pub returns : goal.returns
returns c = (c.loop-x.invariant.1, λ g e s. begins-at _ (c.loop-x.invariant.2 g e s) (omega arith))
