-- `put_place` meets its contract. Assumes nothing.
use native.Mathlib.Omega.{arith}
use Rattle.text.proofs.Stored.{put-most, put_then}
use Rattle.worktext.specs.Texts.{place_text}
use Rattle.worktext.proofs.put_place.Goals as goal

pub returns : goal.returns
unfolding place_text
returns c =
    put-most (omega arith)
    (put_then c.put_named-b.ensures
    (put_then c.put_named-c.ensures
    (put_then c.put_named-d.ensures
    (put_then c.put_named-e.ensures
    (put_then c.put-f.ensures c.field.ensures)))))
