-- `put_head` meets its contract. Assumes nothing.
use native.Mathlib.Omega.{arith}
use Rattle.text.proofs.Stored.{put-most, put_then}
use Rattle.sheettext.specs.Texts.{head}
use Rattle.sheettext.proofs.ends.put_head.Goals as goal

pub returns : goal.returns
unfolding head
returns c =
    put-most (omega arith) (put_then c.put-k.ensures (put_then c.field-l.ensures (put_then c.number-m.ensures (put_then c.put_without-n.ensures c.put_worded.ensures))))
