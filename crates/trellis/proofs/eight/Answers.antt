use native.Mathlib.Omega.{arith}
use lib.ListN.{length-set}
use borrow.Author.Rules.{rules}
use Rattle.bits.proofs.Stores.{set_more}
use Rattle.trellis.proofs.eight.Goals as goal

pub loop-y-init : goal.loop-y-init
loop-y-init c = (search rules, search rules, λ q h. absurd (omega arith))

pub loop-y-preserved : goal.loop-y-preserved
loop-y-preserved c =
    let loop = c.loop-y in (
      search rules,
      simp length-set loop.invariant.1,
      set_more loop.costs _ loop.y _ (omega (arith, loop.invariant.1)) loop.invariant.2 c.cost.ensures,
    )

pub returns : goal.returns
returns c = record { at = λ q h. c.loop-y.invariant.2 q (omega arith) }
