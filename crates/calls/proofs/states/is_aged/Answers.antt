-- `is_aged` meets its contract: the age decides. Assumes nothing.
use borrow.Author.Tests.{eq-eqb, ne_eqb, le-ltb, lt-ltb}
use Rattle.runs.specs.Starting.{aged}
use Rattle.calls.proofs.states.is_aged.Goals as goal

pub returns-then-age-last : goal.returns-then-age-last
unfolding aged
returns-then-age-last c = rw (lt-ltb _ _ c.if-age-last.true)

pub returns-then-age-last-2 : goal.returns-then-age-last-2
unfolding aged
returns-then-age-last-2 c = rw (le-ltb _ _ c.if-age-last.false, eq-eqb _ _ c.if-age-last-2.true)

pub returns : goal.returns
unfolding aged
returns c = rw (le-ltb _ _ c.if-age-last.false, ne_eqb _ _ c.if-age-last-2.false)
