use native.Mathlib.Omega.{arith}
use lib.ListN.{length-set}
use Rattle.bits.proofs.Stores.{set_more}
use Rattle.px.specs.Merged.{near4}
use borrow.Author.Rules.{rules}
use Rattle.px.proofs.nears.Goals as goal

pub loop-q-init : goal.loop-q-init
loop-q-init c = (search rules, search rules, λ s h. absurd (omega arith))

pub loop-q-preserved : goal.loop-q-preserved
loop-q-preserved c = (search rules, simp length-set c.loop-q.invariant.1, set_more c.loop-q.nears near4 c.loop-q.q _ (omega arith) c.loop-q.invariant.2 c.near4.ensures.0)

pub returns : goal.returns
returns c = λ q h. c.loop-q.invariant.2 q (omega arith)
