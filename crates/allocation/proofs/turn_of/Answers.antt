-- `turn_of` meets its contract: the case that the tests chose. Assumes nothing.
use Rattle.allocation.proofs.Steps.{no_place, no-message, taken}
use Rattle.allocation.proofs.turn_of.Goals as goal

pub returns-then-left-eq0 : goal.returns-then-left-eq0
returns-then-left-eq0 c = no_place _ _ _ c.if-left-eq0.true

pub returns-then-n-limit : goal.returns-then-n-limit
returns-then-n-limit c = no-message _ _ _ c.if-n-limit.true

pub returns : goal.returns
returns c = taken _ _ _ c.if-left-eq0.false c.if-n-limit.false _ c.one_more.ensures
