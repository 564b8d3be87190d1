use Prim.Native.Nat.{◌^◌}
use native.Mathlib.Omega.{arith}
use lib.ListN.{length-set}
use borrow.Author.Rules.{rules}
use Rattle.trellis.proofs.Scoring.{set_at}
use Rattle.restoring.proofs.Loops.{shifted_one, last-reached}
use Rattle.restoring.proofs.reach_last.Goals as goal

pub loop-r-init : goal.loop-r-init
loop-r-init c = (omega arith, search rules, λ q h. absurd (omega arith))

pub loop-r-preserved : goal.loop-r-preserved
loop-r-preserved c =
    let loop = c.loop-r in (
      search rules,
      simp length-set loop.invariant.1,
      set_at loop.kept (λ q. 2 ^ q) 5120 loop.r _ (omega (arith, loop.invariant.1)) (shifted_one loop.r (omega arith)) loop.invariant.2,
    )

pub returns : goal.returns
returns c = λ cells. last-reached cells c.loop-r.kept (λ q h. c.loop-r.invariant.2 q (omega arith))
