-- `put_asked` meets its contract: the match is the definition's. Assumes nothing.
use mathlib.Core.Path.{sym}
use native.Mathlib.Omega.{arith}
use Rattle.text.proofs.Stored.{put-most, put_then, put-text}
use Rattle.text.proofs.Left.{put-nothing}
use Rattle.sheettext.specs.Texts.{asked}
use Rattle.sheettext.proofs.lines.put_asked.Goals as goal

pub returns-in-Pm : goal.returns-in-Pm
unfolding asked
returns-in-Pm c =
    put-text (sym (rw (c.in-Some.is, c.in-Pm.is)))
    (put-most (omega arith) (put_then c.field-k.ensures (put_then c.put-m.ensures (put_then c.field-n.ensures c.field.ensures))))

pub returns-in-Px : goal.returns-in-Px
unfolding asked
returns-in-Px c =
    put-text (sym (rw (c.in-Some.is, c.in-Px.is)))
    (put-most (omega arith) (put_then c.field-k-in-Px.ensures (put_then c.put_matrix-l.ensures (put_then c.field-m.ensures (put_then c.field-n-in-Px.ensures c.field-in-Px.ensures)))))

pub returns-in-Bit : goal.returns-in-Bit
unfolding asked
returns-in-Bit c =
    put-text (sym (rw (c.in-Some.is, c.in-Bit.is)))
    (put-most (omega arith) (put_then c.field-k-in-Bit.ensures (put_then c.put_channel-m.ensures (put_then c.field-n-in-Bit.ensures c.field-in-Bit.ensures))))

pub returns-in_default : goal.returns-in_default
unfolding asked
returns-in_default c = put-nothing _ _ _ _ (rw c.in_default.is)
