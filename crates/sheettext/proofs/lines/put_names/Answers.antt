-- `put_names` meets its contract: the match is the definition's. Assumes nothing.
use mathlib.Core.Path.{sym}
use native.Mathlib.Omega.{arith}
use Rattle.text.proofs.Stored.{put-most, put_then, put-text}
use Rattle.text.proofs.Left.{put-nothing}
use Rattle.sheettext.specs.Texts.{names}
use Rattle.sheettext.proofs.lines.put_names.Goals as goal

pub returns-in-Stands : goal.returns-in-Stands
unfolding names
returns-in-Stands c = put-text (sym (rw (c.in-Some.is, c.in-Stands.is))) (put_then c.put_asked-m.ensures c.put_found.ensures)

pub returns-in-Fill : goal.returns-in-Fill
unfolding names
returns-in-Fill c = put-text (sym (rw (c.in-Some.is, c.in-Fill.is))) (put-most (omega arith) (put_then c.put_asked-m-in-Fill.ensures c.put.ensures))

pub returns-in_default : goal.returns-in_default
unfolding names
returns-in_default c = put-nothing _ _ _ _ (rw c.in_default.is)
