-- `turn_of` meets its contract: the match is the definition's. Assumes nothing.
use native.Mathlib.Omega.{arith}
use Rattle.sheetlines.specs.Entries.{turn_of}
use Rattle.sheetlines.proofs.entries.turn_of.Goals as goal

pub returns-then-sent-count : goal.returns-then-sent-count
unfolding turn_of
returns-then-sent-count c = rw (c.in-Some.is, c.in-Stands.is) (omega (arith, c.if-sent-count.true))

pub returns-else-sent-count : goal.returns-else-sent-count
unfolding turn_of
returns-else-sent-count c = rw (c.in-Some.is, c.in-Stands.is) (omega (arith, c.if-sent-count.false))

pub returns-in-Fill : goal.returns-in-Fill
unfolding turn_of
returns-in-Fill c = rw (c.in-Some.is, c.in-Fill.is)

pub returns-in_default : goal.returns-in_default
unfolding turn_of
returns-in_default c = rw c.in_default.is
