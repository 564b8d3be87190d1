-- `put_owner` meets its contract. Assumes nothing.
use native.Mathlib.Omega.{arith}
use Rattle.text.proofs.Stored.{put-most, put_then}
use Rattle.sheettext.specs.Texts.{owner}
use Rattle.sheettext.proofs.lines.put_owner.Goals as goal

pub returns : goal.returns
unfolding owner
returns c = put-most (omega arith) (put_then c.put_channel-k.ensures (put_then c.put_of_px-m.ensures (put_then c.field-n.ensures c.number.ensures)))
