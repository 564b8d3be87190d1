-- `source_of` meets its contract: the tables by slots are those of section 12. Assumes nothing.
use mathlib.Core.Path.{◌∙◌}
use Rattle.subcarriers.proofs.BySlots.{in-lower, between, in-upper}
use Rattle.subcarriers.proofs.source_of.Goals as goal

pub returns-then-k-lt267 : goal.returns-then-k-lt267
returns-then-k-lt267 c = c.slot_source.ensures ∙ in-lower _ _ c.requires.0 c.if-k-lt267.true

pub returns-then-k-lt826 : goal.returns-then-k-lt826
returns-then-k-lt826 c = between _ _ c.requires.0 c.if-k-lt267.false c.if-k-lt826.true

pub returns : goal.returns
returns c = c.slot_source-2.ensures ∙ in-upper _ _ c.requires.0 c.if-k-lt826.false c.requires.1
