use native.Mathlib.Omega.{arith}
use lib.ListN.{length-set}
use borrow.Author.Rules.{rules}
use Rattle.bits.proofs.Stores.{set_more}
use Rattle.trellis.proofs.all_outputs.Goals as goal

pub loop-w-init : goal.loop-w-init
loop-w-init c = (search rules, search rules, λ q h. absurd (omega arith))

pub loop-w-preserved : goal.loop-w-preserved
loop-w-preserved c =
    let loop = c.loop-w in (
      search rules,
      simp length-set loop.invariant.1,
      set_more loop.all _ loop.w _ (omega (arith, loop.invariant.1)) loop.invariant.2 c.window_outputs.ensures,
    )

pub returns : goal.returns
returns c = record { at = λ q h. c.loop-w.invariant.2 q (omega arith) }
