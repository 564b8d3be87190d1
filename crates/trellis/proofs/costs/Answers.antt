use native.Mathlib.Omega.{arith}
use borrow.Author.Rules.{rules}
use Rattle.trellis.proofs.Outputs.{filled_more}
use Rattle.trellis.proofs.costs.Goals as goal

pub loop-j-init : goal.loop-j-init
loop-j-init c = (omega arith, search rules, λ i w h. absurd (omega arith))

pub fill-requires : goal.fill-requires
fill-requires c = (omega arith, c.all_outputs-all.ensures, search rules)

pub loop-j-preserved : goal.loop-j-preserved
loop-j-preserved c =
    let loop = c.loop-j in
    (search rules, search rules, filled_more c.args.cells.now loop.j _ _ _ c.fill.ensures c.eight-costs.ensures loop.invariant.2)

pub returns : goal.returns
returns c = record { at = λ i w h. c.loop-j.invariant.2 i w (omega arith) }
