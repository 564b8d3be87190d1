-- `put_part` meets its contract. Assumes nothing.
use native.Mathlib.Omega.{arith}
use lib.Ieee.{of_bits}
use Rattle.text.proofs.Stored.{put-most, put-text, put_then}
use Rattle.vector_step.proofs.Parts.{below-zero, not-below}
use Rattle.vector_step.proofs.numbers.put_part.Goals as goal

pub returns-then-part : goal.returns-then-part
unfolding of_bits
returns-then-part c =
    put-text (below-zero c.args.part _ c.times_of-n.ensures c.if-part.true)
    (put-most (omega arith) (put_then c.put-m.ensures c.put_times.ensures))

pub returns : goal.returns
unfolding of_bits
returns c =
    put-text (not-below c.args.part _ c.times_of-n.ensures c.if-part.false) (put-most (omega arith) c.put_times-2.ensures)
