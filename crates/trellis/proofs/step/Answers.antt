use native.Mathlib.Omega.{arith}
use lib.ListN.{length-set}
use borrow.Author.Rules.{rules}
use Rattle.trellis.proofs.Scoring.{halves-more, halves-all}
use Rattle.trellis.proofs.step.Goals as goal

pub loop-r-init : goal.loop-r-init
loop-r-init c = (search rules, search rules, λ q h. absurd (omega arith))

pub better-requires : goal.better-requires
better-requires c =
    let pre = c.requires in
    (omega (arith, pre.0, pre.1), omega arith, pre.2, pre.3)

pub better-requires-in-loop-r : goal.better-requires-in-loop-r
better-requires-in-loop-r c =
    let pre = c.requires in
    (omega (arith, pre.0, pre.1), omega arith, pre.2, pre.3)

pub loop-r-preserved : goal.loop-r-preserved
loop-r-preserved c =
    let loop = c.loop-r in (
      search rules,
      simp length-set loop.invariant.1,
      halves-more loop.scores _ loop.r _ _ (omega arith) loop.invariant.1 c.better.ensures c.better-in-loop-r.ensures loop.invariant.2,
    )

pub returns : goal.returns
returns c = (omega (arith, c.requires.0), halves-all c.loop-r.scores _ (λ q h. c.loop-r.invariant.2 q (omega arith)))
