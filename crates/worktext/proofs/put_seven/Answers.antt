-- `put_seven` meets its contract. Assumes nothing.
use native.Mathlib.Omega.{arith}
use Rattle.text.proofs.Stored.{put-most, put-text, put_then}
use Rattle.worktext.proofs.Seven.{seven-words}
use Rattle.worktext.proofs.put_seven.Goals as goal

pub returns : goal.returns
returns c =
    put-text (seven-words _ c.requires.1)
    (put-most (omega arith)
    (put_then c.put_bit-b.ensures
    (put_then c.put_bit-c.ensures
    (put_then c.put_bit-d.ensures
    (put_then c.put_bit-e.ensures
    (put_then c.put_bit-f.ensures
    (put_then c.put_bit-g.ensures c.put_bit.ensures)))))))
