-- `put_line` meets its contract: the case that the line's numbers chose. Assumes nothing.
use mathlib.Core.Path.{sym, ◌∙◌}
use Rattle.text.proofs.Stored.{put-text}
use Rattle.placelines.proofs.Texts.{printed-read, printed-bad}
use Rattle.placelines.proofs.printing.put_line.Goals as goal

pub put_shared-requires : goal.put_shared-requires
put_shared-requires c =
    (c.requires, sym c.is_read.ensures ∙ c.if-is_read.true)

pub returns-then-is_read : goal.returns-then-is_read
returns-then-is_read c =
    put-text (printed-read c.args.number c.args.line.now (sym c.is_read.ensures ∙ c.if-is_read.true)) c.put_shared.ensures

pub returns : goal.returns
returns c =
    put-text (printed-bad c.args.number c.args.line.now (sym c.is_read.ensures ∙ c.if-is_read.false)) c.put_bad.ensures
