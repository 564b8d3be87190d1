-- `locate_second` meets its contract: the case that the tests chose. Assumes nothing.
use mathlib.Core.Path.{ap, ◌∙◌}
use native.Mathlib.Omega.{arith}
use Rattle.std.specs.Prelude.{Ok}
use Rattle.finding_px.proofs.Cases.{frame-out, bit-out, bit_in}
use Rattle.finding_px.proofs.locator.locate_second.Goals as goal

pub returns-then-frame-ge8 : goal.returns-then-frame-ge8
returns-then-frame-ge8 c = frame-out _ _ _ c.if-frame-ge8.true

pub returns-then-bit-columns : goal.returns-then-bit-columns
returns-then-bit-columns c =
    bit-out _ _ _ c.if-frame-ge8.false (omega (arith, c.columns.ensures.0, c.if-bit-columns.true))

pub standing-requires : goal.standing-requires
standing-requires c =
    (c.if-frame-ge8.false, omega (arith, c.columns.ensures.0, c.if-bit-columns.false))

pub returns : goal.returns
returns c =
    ap Ok c.standing.ensures ∙ bit_in _ _ _ c.if-frame-ge8.false (omega (arith, c.columns.ensures.0, c.if-bit-columns.false))
