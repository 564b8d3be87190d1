-- `put_end` meets its contract. Assumes nothing.
use native.Mathlib.Omega.{arith}
use Rattle.text.proofs.Stored.{put-most, put_then}
use Rattle.sheettext.specs.Texts.{ending}
use Rattle.sheettext.proofs.ends.put_end.Goals as goal

pub returns : goal.returns
unfolding ending
returns c = put-most (omega arith) (put_then c.put-m.ensures c.field.ensures)
