-- `standing` meets its contract: the law `standing-told`. Assumes nothing.
use native.Mathlib.Omega.{arith}
use Rattle.finding_px.proofs.Cells.{cell-of}
use Rattle.finding_px.proofs.Cases.{standing-told}
use Rattle.finding_px.proofs.Turned.{bit-inside}
use Rattle.finding_px.proofs.locator.standing.Goals as goal

pub write_second-cell-requires : goal.write_second-cell-requires
write_second-cell-requires c =
    let l = bit-inside c.args.main c.args.bit _ _ c.columns-w.ensures.0 c.row_of.ensures c.requires.1 in
    (l.0, c.requires.0, l.1)

pub nonzero_div-y : goal.nonzero_div-y
nonzero_div-y c =
    let l = bit-inside c.args.main c.args.bit _ _ c.columns-w.ensures.0 c.row_of.ensures c.requires.1 in
    omega (arith, l.2)

pub nonzero_rem-result-2 : goal.nonzero_rem-result-2
nonzero_rem-result-2 c =
    let l = bit-inside c.args.main c.args.bit _ _ c.columns-w.ensures.0 c.row_of.ensures c.requires.1 in
    omega (arith, l.2)

pub returns : goal.returns
returns c =
    let a = c.args in
    standing-told a.main a.frame a.bit _ _ _ _ c.columns-w.ensures.0 c.row_of.ensures
    (cell-of _ _ _ c.write_second-cell.ensures) c.delay.ensures
