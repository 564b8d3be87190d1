-- `put_last` meets its contract: no value is said of a cell that is not sent. Assumes nothing.
use mathlib.Core.Path.{ap, ◌∙◌}
use Rattle.text.specs.Lines.{lines}
use Rattle.text.proofs.Stored.{put-text, put_then}
use Rattle.sheettext.specs.Texts.{ending}
use Rattle.sheetruns.proofs.Same.{later_same}
use Rattle.sheetruns.proofs.frames.put_last.Goals as goal

pub shape_of-out : goal.shape_of-out
shape_of-out c = c.out-2-1.given ∙ c.out-1.given

pub returns : goal.returns
returns c = let a = c.args in
    put_then (put-text (later_same _ _ a.mode a.count (lines a.list.now)) c.put_answers-m.ensures)
    (put-text (ap ending c.count_answers-n.ensures) c.put_end.ensures)
