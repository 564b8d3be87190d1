-- `put_bit` meets its contract. Assumes nothing.
use native.Mathlib.Omega.{arith}
use Rattle.text.proofs.Stored.{put-most, put-text, put_then}
use Rattle.sheettext.proofs.Owned.{bit-later, bit-now}
use Rattle.sheettext.proofs.lines.put_bit.Goals as goal

pub returns-then-not-sent : goal.returns-then-not-sent
returns-then-not-sent c = put-most (omega arith) (put-text (bit-later _ _ (c.if-not-sent.true)) c.put.ensures)

pub returns : goal.returns
returns c = put-text (bit-now _ _ (c.if-not-sent.false)) (put_then c.put-m.ensures c.field.ensures)
