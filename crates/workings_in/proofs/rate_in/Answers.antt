-- `rate_in` meets its contract. Assumes nothing.
use borrow.Author.Tests.{eq-eqb, ne_eqb}
use Rattle.workings_in.specs.Shown.{rate_in}
use Rattle.workings_in.proofs.rate_in.Goals as goal

pub returns-then-channel-eq6 : goal.returns-then-channel-eq6
unfolding rate_in
returns-then-channel-eq6 c = rw (eq-eqb _ _ c.if-channel-eq6.true)

pub returns : goal.returns
unfolding rate_in
returns c = rw (ne_eqb _ _ c.if-channel-eq6.false)
