-- `past` meets its contract. Assumes nothing.
use borrow.Author.Tests.{le-ltb, lt-ltb}
use Rattle.recover.proofs.past.Goals as goal

pub returns-then-r-n : goal.returns-then-r-n
returns-then-r-n c = rw (lt-ltb _ _ c.if-r-n.true)

pub returns : goal.returns
returns c = rw (le-ltb _ _ c.if-r-n.false)
