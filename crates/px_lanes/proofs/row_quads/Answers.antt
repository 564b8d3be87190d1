use native.Mathlib.Omega.{arith}
use Rattle.transposing.proofs.Words.{begins-none, begins-at}
use borrow.Author.Rules.{rules}
use Rattle.px_lanes.proofs.row_quads.Goals as goal

pub loop-z-init : goal.loop-z-init
loop-z-init c = (search rules, search rules, begins-none _ _)

pub four_columns-requires : goal.four_columns-requires
four_columns-requires c =
    let pre = c.requires in
    (pre.0, pre.1, c.loop-z-test.true, pre.2, pre.3, c.loop-z.invariant.1)

pub loop-z-preserved : goal.loop-z-preserved
loop-z-preserved c =
    let loop = c.loop-z in
    let done = c.four_columns.ensures in
    (omega (arith, c.loop-z-test.true), done.0, begins-at _ (done.1 loop.invariant.2) (omega arith))

pub returns : goal.returns
returns c = (c.loop-z.invariant.1, begins-at _ c.loop-z.invariant.2 (omega (arith, c.loop-z.invariant.0, c.loop-z-test.false)))
