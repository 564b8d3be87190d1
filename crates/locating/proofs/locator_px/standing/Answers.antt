-- `standing` meets its contract: the law `standing-told`. Assumes nothing.
use native.Mathlib.Omega.{arith}
use Rattle.queries.proofs.Origins.{rows-hold, has-columns}
use Rattle.locating.proofs.CasesPX.{bit-small, standing-told}
use Rattle.locating.proofs.locator_px.standing.Goals as goal

pub overflow_mul-frame : goal.overflow_mul-frame
overflow_mul-frame c =
    omega (arith, (bit-small c.args.kind c.args.frame c.args.bit _ c.columns-c.ensures.0 c.requires.2 c.requires.3).1)

pub overflow_add-frame : goal.overflow_add-frame
overflow_add-frame c =
    omega (arith, (bit-small c.args.kind c.args.frame c.args.bit _ c.columns-c.ensures.0 c.requires.2 c.requires.3).1)

pub later-x-requires : goal.later-x-requires
later-x-requires c =
    rw c.table_row.ensures (c.requires.0, omega (arith, rows-hold c.args.kind), c.requires.1, (bit-small c.args.kind c.args.frame c.args.bit _ c.columns-c.ensures.0 c.requires.2 c.requires.3).0)

pub nonzero_rem-cell : goal.nonzero_rem-cell
nonzero_rem-cell c =
    omega (arith, has-columns c.args.kind c.requires.0)

pub nonzero_div-y : goal.nonzero_div-y
nonzero_div-y c =
    omega (arith, has-columns c.args.kind c.requires.0)

pub nonzero_div-result : goal.nonzero_div-result
nonzero_div-result c =
    omega (arith, has-columns c.args.kind c.requires.0)

pub nonzero_rem-result-2 : goal.nonzero_rem-result-2
nonzero_rem-result-2 c =
    omega (arith, has-columns c.args.kind c.requires.0)

pub returns : goal.returns
returns c =
    let a = c.args in
    standing-told a.kind a.half a.frame a.bit _ _ _ c.table_row.ensures c.columns-c.ensures.0 c.later-x.ensures.0
