-- `put_of_px` meets its contract. Assumes nothing.
use mathlib.Core.Path.{sym}
use borrow.Author.Tests.{le-ltb, lt-ltb}
use Rattle.text.proofs.Stored.{put-text}
use Rattle.text.proofs.Left.{put-nothing}
use Rattle.sheettext.specs.Texts.{of_px}
use Rattle.sheettext.proofs.lines.put_of_px.Goals as goal

pub returns-then-channel-lt3 : goal.returns-then-channel-lt3
unfolding of_px
returns-then-channel-lt3 c = put-nothing _ _ _ _ (rw (lt-ltb _ _ c.if-channel-lt3.true))

pub returns : goal.returns
unfolding of_px
returns c = put-text (sym (rw (le-ltb _ _ c.if-channel-lt3.false))) c.field.ensures
