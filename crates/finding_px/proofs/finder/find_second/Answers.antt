-- `find_second` meets its contract: the case that the tests chose. Assumes nothing.
use mathlib.Core.Path.{ap, ◌∙◌}
use native.Mathlib.Omega.{arith}
use Prim.Native.Nat.{ℕ}
use Rattle.std.specs.Prelude.{Ok}
use Rattle.finding_px.specs.declared.finder.FoundPxIn.TheVariants.{Second}
use Rattle.finding_px.proofs.Cases.{pair-out, row_out, column-out, delay-zero, second_is}
use Rattle.finding_px.proofs.finder.find_second.Goals as goal

pub returns-then-pair-ge8 : goal.returns-then-pair-ge8
returns-then-pair-ge8 c = pair-out _ _ _ _ _ c.if-pair-ge8.true

pub returns-then-row-ge64 : goal.returns-then-row-ge64
returns-then-row-ge64 c = row_out _ _ _ _ _ c.if-pair-ge8.false c.if-row-ge64.true

pub returns-then-column-columns : goal.returns-then-column-columns
returns-then-column-columns c =
    column-out _ _ _ _ _ c.if-pair-ge8.false c.if-row-ge64.false (omega (arith, c.columns.ensures.0, c.if-column-columns.true))

pub returns-then-age-delay : goal.returns-then-age-delay
returns-then-age-delay c =
    delay-zero _ _ _ _ _ c.if-pair-ge8.false c.if-row-ge64.false (omega (arith, c.columns.ensures.0, c.if-column-columns.false))
    (omega (arith, c.delay.ensures, c.if-age-delay.true))

pub bit_of-bit-requires : goal.bit_of-bit-requires
bit_of-bit-requires c =
    (c.if-row-ge64.false, omega (arith, c.columns.ensures.0, c.if-column-columns.false))

pub returns : goal.returns
returns c =
    let a = c.args in
    ap (λ (b : ℕ). Ok (Second a.pair b)) c.bit_of-bit.ensures
    ∙ second_is _ _ _ _ _ c.if-pair-ge8.false c.if-row-ge64.false (omega (arith, c.columns.ensures.0, c.if-column-columns.false))
    (omega (arith, c.delay.ensures, c.if-age-delay.false))
