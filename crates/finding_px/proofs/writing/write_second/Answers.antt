-- `write_second` meets its contract: either, by the row. Assumes nothing.
use mathlib.Core.Path.{◌∙◌}
use Rattle.finding_px.proofs.Cells.{of_narrow, of-wide, narrow_bits, wide-bits}
use Rattle.finding_px.proofs.writing.write_second.Goals as goal

pub narrow-requires : goal.narrow-requires
narrow-requires c =
    (c.requires.1, narrow_bits _ _ c.if-row-eq0.true c.requires.2)

pub returns-then-row-eq0 : goal.returns-then-row-eq0
returns-then-row-eq0 c = c.narrow.ensures ∙ of_narrow _ _ _ c.if-row-eq0.true

pub wide-requires : goal.wide-requires
wide-requires c =
    (c.requires.1, wide-bits _ _ c.requires.0 c.if-row-eq0.false c.requires.2)

pub returns : goal.returns
returns c = c.wide.ensures ∙ of-wide _ _ _ c.requires.0 c.if-row-eq0.false
