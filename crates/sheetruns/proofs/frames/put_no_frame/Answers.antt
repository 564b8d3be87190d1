-- `put_no_frame` meets its contract. Assumes nothing.
use mathlib.Core.Path.{ap}
use native.Mathlib.Omega.{arith}
use Rattle.text.proofs.Stored.{put-most, put-text, put_then}
use Rattle.sheettext.specs.Texts.{last, word}
use Rattle.sheetruns.specs.Told.{no_frame}
use Rattle.sheetruns.proofs.frames.put_no_frame.Goals as goal

pub returns : goal.returns
unfolding no_frame
returns c =
    put-most (omega arith)
    (put_then c.put-k.ensures
    (put_then c.field-l.ensures
    (put_then c.put-m.ensures
    (put_then (put-text (ap word c.number.ensures) c.field-n.ensures)
    (put_then c.put-o.ensures (put-text (ap last c.place.ensures) c.field.ensures))))))
