-- `put_worded` meets its contract. Assumes nothing.
use native.Mathlib.Omega.{arith}
use Rattle.text.proofs.Stored.{put-most, put-text}
use Rattle.sheettext.proofs.Heads.{with-work, without-work}
use Rattle.sheettext.proofs.ends.put_worded.Goals as goal

pub returns-then-work : goal.returns-then-work
returns-then-work c = put-text (with-work _ c.if-work.true) c.put.ensures

pub returns : goal.returns
returns c = put-most (omega arith) (put-text (without-work _ c.if-work.false) c.put-2.ensures)
