-- `put_writing` meets its contract. Assumes nothing.
use native.Mathlib.Omega.{arith}
use Rattle.text.proofs.Stored.{put-most, put_then}
use Rattle.worktext.specs.Texts.{writing_text}
use Rattle.worktext.proofs.put_writing.Goals as goal

pub returns : goal.returns
unfolding writing_text
returns c =
    put-most (omega arith)
    (put_then c.put_named-b.ensures
    (put_then c.put_named-c.ensures c.put_place.ensures))
