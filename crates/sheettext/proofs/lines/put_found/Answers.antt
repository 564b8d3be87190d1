-- `put_found` meets its contract: the match is the definition's. Assumes nothing.
use mathlib.Core.Path.{sym}
use Rattle.text.proofs.Stored.{put-text}
use Rattle.text.proofs.Left.{put-nothing}
use Rattle.sheettext.specs.Texts.{found}
use Rattle.sheettext.proofs.lines.put_found.Goals as goal

pub returns-in-Pm : goal.returns-in-Pm
unfolding found
returns-in-Pm c = put-text (sym (rw (c.in-Some.is, c.in-Pm.is))) c.put_owner.ensures

pub returns-in-Px : goal.returns-in-Px
unfolding found
returns-in-Px c = put-text (sym (rw (c.in-Some.is, c.in-Px.is))) c.put_owner-in-Px.ensures

pub returns-in-Bit : goal.returns-in-Bit
unfolding found
returns-in-Bit c = put-text (sym (rw (c.in-Some.is, c.in-Bit.is))) c.put_place.ensures

pub returns-in_default : goal.returns-in_default
unfolding found
returns-in_default c = put-nothing _ _ _ _ (rw c.in_default.is)
