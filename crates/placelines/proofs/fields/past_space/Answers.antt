-- `past_space` meets its contract. Assumes nothing.
use Rattle.placelines.proofs.Numbers.{past, past_end}
use Rattle.placelines.proofs.fields.past_space.Goals as goal

pub returns-then-end-line : goal.returns-then-end-line
returns-then-end-line c = past _ _ _ c.end_of-end.ensures.0 c.if-end-line.true

pub returns : goal.returns
returns c = past_end _ _ _ c.end_of-end.ensures.0 c.end_of-end.ensures.1 c.if-end-line.false
