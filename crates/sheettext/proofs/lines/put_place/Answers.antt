-- `put_place` meets its contract. Assumes nothing.
use Rattle.text.proofs.Stored.{put_then}
use Rattle.sheettext.specs.Texts.{place}
use Rattle.sheettext.proofs.lines.put_place.Goals as goal

pub returns : goal.returns
unfolding place
returns c = put_then c.put_matrix-k.ensures (put_then c.field-l.ensures (put_then c.put_of_px-m.ensures (put_then c.field-n.ensures c.number.ensures)))
