-- `put_value` meets its contract: the match is the definition's. Assumes nothing.
use mathlib.Core.Path.{sym}
use native.Mathlib.Omega.{arith}
use Rattle.text.proofs.Stored.{put-most, put-text}
use Rattle.text.proofs.Left.{put-nothing}
use Rattle.sheettext.specs.Texts.{value_text}
use Rattle.sheettext.proofs.lines.put_value.Goals as goal

pub returns-in-Stands : goal.returns-in-Stands
unfolding value_text
returns-in-Stands c = put-text (sym (rw (c.in-Some.is, c.in-Stands.is))) c.put_bit.ensures

pub returns-in-Fill : goal.returns-in-Fill
unfolding value_text
returns-in-Fill c = put-most (omega arith) (put-text (sym (rw (c.in-Some.is, c.in-Fill.is))) c.put.ensures)

pub returns-in_default : goal.returns-in_default
unfolding value_text
returns-in_default c = put-nothing _ _ _ _ (rw c.in_default.is)
