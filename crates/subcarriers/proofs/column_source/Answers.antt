-- `column_source` meets its contract. Assumes nothing.
use borrow.Author.Tests.{lt-ltb, le-ltb}
use Rattle.subcarriers.specs.Slots.{column_source}
use Rattle.subcarriers.proofs.column_source.Goals as goal

pub returns-then-column-lt61 : goal.returns-then-column-lt61
unfolding column_source
returns-then-column-lt61 c = rw (lt-ltb _ _ c.if-column-lt61.true)

pub returns : goal.returns
unfolding column_source
returns c = rw (le-ltb _ _ c.if-column-lt61.false)
