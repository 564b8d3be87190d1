-- `partition_source` meets its contract. Assumes nothing.
use borrow.Author.Tests.{lt-ltb, le-ltb}
use Rattle.subcarriers.specs.Slots.{partition_source}
use Rattle.subcarriers.proofs.partition_source.Goals as goal

pub returns-then-p-lt32 : goal.returns-then-p-lt32
unfolding partition_source
returns-then-p-lt32 c = rw (lt-ltb _ _ c.if-p-lt32.true)

pub returns-then-p-lt64 : goal.returns-then-p-lt64
unfolding partition_source
returns-then-p-lt64 c = rw (le-ltb _ _ c.if-p-lt32.false, lt-ltb _ _ c.if-p-lt64.true)

pub returns-then-p-lt96 : goal.returns-then-p-lt96
unfolding partition_source
returns-then-p-lt96 c = rw (le-ltb _ _ c.if-p-lt32.false, le-ltb _ _ c.if-p-lt64.false, lt-ltb _ _ c.if-p-lt96.true)

pub returns : goal.returns
unfolding partition_source
returns c = rw (le-ltb _ _ c.if-p-lt32.false, le-ltb _ _ c.if-p-lt64.false, le-ltb _ _ c.if-p-lt96.false)
