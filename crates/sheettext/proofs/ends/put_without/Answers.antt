-- `put_without` meets its contract. Assumes nothing.
use native.Mathlib.Omega.{arith}
use Rattle.text.proofs.Stored.{put-most, put-text}
use Rattle.text.proofs.Left.{put-nothing}
use Rattle.sheettext.proofs.Heads.{without-both, without-none, without-p3, without-p4}
use Rattle.sheettext.proofs.ends.put_without.Goals as goal

pub returns-then-without4 : goal.returns-then-without4
returns-then-without4 c = put-text (without-both _ _ c.if-without3.true c.if-without4.true) c.put.ensures

pub returns-then-without3 : goal.returns-then-without3
returns-then-without3 c = put-most (omega arith) (put-text (without-p3 _ _ c.if-without3.true c.if-without4.false) c.put-then-without3.ensures)

pub returns-then-without4-2 : goal.returns-then-without4-2
returns-then-without4-2 c = put-most (omega arith) (put-text (without-p4 _ _ c.if-without3.false c.if-without4-2.true) c.put-then-without4-2.ensures)

pub returns : goal.returns
returns c = put-nothing _ _ _ _ (without-none _ _ c.if-without3.false c.if-without4-2.false)
