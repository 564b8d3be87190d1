-- `put_owner_line` meets its contract: the line is refused, or its names are put. Assumes nothing.
use native.Mathlib.Omega.{arith}
use Rattle.text.proofs.Stored.{put_then}
use Rattle.sheettext.proofs.Owned.{owner-refused, owner-said}
use Rattle.sheettext.proofs.owners.put_owner_line.Goals as goal

pub returns-then-is_refused : goal.returns-then-is_refused
returns-then-is_refused c = owner-refused c.args.mode c.args.number c.args.line.now _ c.asked-question.ensures _ c.entry_for-entry.ensures _ c.is_refused.ensures _ _ _ _ c.if-is_refused.true c.refuse.ensures

pub returns : goal.returns
returns c = owner-said c.args.mode c.args.number c.args.line.now _ c.asked-question.ensures _ c.entry_for-entry.ensures _ c.is_refused.ensures _ _ _ _ c.if-is_refused.false 176 (omega arith)
    (put_then c.put_names-m.ensures c.put.ensures)
