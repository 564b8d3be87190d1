-- `decoding::nearer` meets its contract. Assumes nothing.
use borrow.Author.Tests.{lt-ltb, le-ltb}
use Rattle.decoding.specs.Starts.{nearer_of}
use Rattle.decoding.proofs.nearer.Goals as goal

pub returns-then-b-a : goal.returns-then-b-a
unfolding nearer_of
returns-then-b-a c = rw (lt-ltb _ _ c.if-b-a.true)

pub returns : goal.returns
unfolding nearer_of
returns c = rw (le-ltb _ _ c.if-b-a.false)
