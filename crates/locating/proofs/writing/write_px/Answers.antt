-- `write_px` meets its contract: the law `px-writing-is`. Assumes nothing.
use Prim.Native.Nat.{◌+◌, ◌*◌, ◌/◌, ◌%◌}
use native.Mathlib.Omega.{arith}
use Rattle.locating.proofs.Counted.{rows-small}
use Rattle.locating.proofs.WritingsOf.{px-writing-is, cell_below}
use Rattle.locating.proofs.writing.write_px.Goals as goal

pub overflow_mul-cell-2 : goal.overflow_mul-cell-2
overflow_mul-cell-2 c =
    let e = c.entry_of-e.result in
    omega (arith, rows-small (32 * ((e.count / 1152 + (e.count % 1152 + e.partition * 7)) % 32) + 11 * e.count % 1152 / 36) _ (omega arith) c.width-w.ensures.1)

pub overflow_add-cell-3 : goal.overflow_add-cell-3
overflow_add-cell-3 c =
    let e = c.entry_of-e.result in
    omega (arith, rows-small (32 * ((e.count / 1152 + (e.count % 1152 + e.partition * 7)) % 32) + 11 * e.count % 1152 / 36) _ (omega arith) c.width-w.ensures.1)

pub returns : goal.returns
returns c =
    let a = c.args in
    let e = c.entry_of-e.ensures in
    let r = px-writing-is a.kind a.i _ _ _ e.0 e.1 c.width-w.ensures.0 in
    (r, cell_below a.kind a.i _ c.requires.0 c.requires.1 r)
