-- `put_answer` meets its contract: the line is answered in another L1 frame or not at all, or its answer is put. Assumes nothing.
use native.Mathlib.Omega.{arith}
use Rattle.calls.specs.Called.{matrices}
use Rattle.text.proofs.Stored.{put-text, put_then}
use Rattle.sheettext.specs.Texts.{value_in}
use Rattle.sheetworks.specs.Works.{work_text}
use Rattle.sheetlists.proofs.Said.{is-asked, not-asked, value-known}
use Rattle.sheetlists.proofs.lists.put_answer.Goals as goal

pub returns-then-not-stands_in : goal.returns-then-not-stands_in
returns-then-not-stands_in c =
    not-asked _ c.args.mode c.args.count c.args.t c.args.line.now _ c.asked-question.ensures _ c.entry_for-entry.ensures _ c.stands_in.ensures _ _ (c.if-not-stands_in.true)

pub put_working-requires : goal.put_working-requires
put_working-requires c =
    (c.requires.2, c.requires.3, c.requires.4, omega (arith, c.requires.5, c.put_names-m.ensures.within, c.put_names-m.ensures.size, c.put_value-n.ensures.within, c.put_value-n.ensures.size))

pub returns : goal.returns
returns c =
    is-asked _ c.args.mode c.args.count c.args.t c.args.line.now _ c.asked-question.ensures _ c.entry_for-entry.ensures _ c.stands_in.ensures _ _ (c.if-not-stands_in.false) _ _ 779 (omega arith)
    (put_then c.put_names-m.ensures
    (put-text (value-known c.args.count c.entry_for-entry.result (value_in (matrices c.args.pm.now c.args.px1.now c.args.px2.now)) (work_text c.args.work c.args.mode c.args.n3 c.args.n4 c.args.bytes.now) c.value_of-value.ensures) (put_then c.put_value-n.ensures c.put_working.ensures)))
