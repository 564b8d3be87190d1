-- `place_of` meets its contract: the case that the tests chose. Assumes nothing.
use mathlib.Core.Path.{ap, ◌∙◌}
use Rattle.std.specs.Prelude.{Ok}
use Rattle.queries.specs.Places.{values}
use Rattle.queries.proofs.Placing.{row_out, column-out, within}
use Rattle.queries.proofs.Valued.{valued}
use Rattle.queries.proofs.places.place_of.Goals as goal

pub returns-then-row-ge512 : goal.returns-then-row-ge512
returns-then-row-ge512 c = valued values (row_out _ _ c.if-row-ge512.true)

pub returns-then-column-ge720 : goal.returns-then-column-ge720
returns-then-column-ge720 c = valued values (column-out _ _ c.if-row-ge512.false c.if-column-ge720.true)

pub returns : goal.returns
returns c = valued values (ap Ok c.position_of.ensures ∙ within _ _ c.if-row-ge512.false c.if-column-ge720.false)
