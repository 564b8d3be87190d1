-- `put_sum` meets its contract. Assumes nothing.
use native.Mathlib.Omega.{arith}
use Rattle.text.proofs.Stored.{put-most, put_then}
use Rattle.worktext.specs.Texts.{sum_text}
use Rattle.worktext.proofs.put_sum.Goals as goal

pub returns : goal.returns
unfolding sum_text
returns c =
    put-most (omega arith)
    (put_then c.put-b.ensures
    (put_then c.put_seven-c.ensures
    (put_then c.put-d.ensures
    (put_then c.put_seven-e.ensures c.put_named.ensures))))
