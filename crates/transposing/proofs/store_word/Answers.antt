use Prim.Native.Nat.{◌+◌}
use native.Mathlib.Omega.{arith}
use lib.ListN.{length-set}
use Rattle.transposing.proofs.Words.{begins-at, begins-turn}
use borrow.Author.Rules.{rules}
use Rattle.transposing.proofs.store_word.Goals as goal

pub loop-u-init : goal.loop-u-init
loop-u-init c = (search rules, search rules, λ g e b s. begins-at _ s (omega arith))

pub loop-u-preserved : goal.loop-u-preserved
loop-u-preserved c =
    let loop = c.loop-u in
    let n = c.args.n in (
      search rules,
      simp length-set loop.invariant.1,
      λ g e b s. begins-at _ (begins-turn _ (loop.invariant.2 g e b s) (omega arith) (c.byte_of.ensures (λ u. g (n + u)) e (λ i h. b (n + i)))) (omega arith),
    )

pub returns : goal.returns
returns c g e b s = begins-at _ (c.loop-u.invariant.2 g e b s) (omega arith)
