-- `scale_at` meets its contract. Assumes nothing.
use borrow.Author.Tests.{lt-ltb, le-ltb}
use Rattle.mapping.proofs.vectors.scale_at.Goals as goal

pub returns-then-k-lt546 : goal.returns-then-k-lt546
returns-then-k-lt546 c = rw (lt-ltb _ _ c.if-k-lt546.true)

pub returns : goal.returns
returns c = rw (le-ltb _ _ c.if-k-lt546.false)
