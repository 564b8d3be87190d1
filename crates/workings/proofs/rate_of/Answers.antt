-- `rate_of` meets its contract. Assumes nothing.
use borrow.Author.Tests.{lt-ltb, le-ltb}
use Rattle.workings.specs.Shown.{rate_of}
use Rattle.workings.proofs.rate_of.Goals as goal

pub returns-then-channel-lt3 : goal.returns-then-channel-lt3
unfolding rate_of
returns-then-channel-lt3 c = rw (lt-ltb _ _ c.if-channel-lt3.true)

pub returns : goal.returns
unfolding rate_of
returns c = rw (le-ltb _ _ c.if-channel-lt3.false)
