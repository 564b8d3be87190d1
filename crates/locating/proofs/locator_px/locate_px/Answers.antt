-- `locate_px` meets its contract: the case that the tests chose. Assumes nothing.
use mathlib.Core.Path.{sym, ap, ◌∙◌}
use native.Mathlib.Omega.{arith}
use Rattle.std.specs.Prelude.{Ok}
use Rattle.calls.proofs.Admitted.{valid-says}
use Rattle.queries.proofs.Origins.{frame-holds, used}
use Rattle.queries.proofs.Valued.{valued}
use Rattle.locating.specs.LocatorPX.{values}
use Rattle.locating.proofs.CasesPX.{state-refused, channel-refused, frame_refused, bit-refused, inside}
use Rattle.locating.proofs.locator_px.locate_px.Goals as goal

pub returns-then-not-is_valid : goal.returns-then-not-is_valid
returns-then-not-is_valid c = valued values (state-refused _ _ _ _ (sym c.is_valid.ensures ∙ c.if-not-is_valid.true))

pub returns-then-c-eq0 : goal.returns-then-c-eq0
returns-then-c-eq0 c =
    let v = sym c.is_valid.ensures ∙ c.if-not-is_valid.false in
    valued values (channel-refused _ _ _ _ v _ c.kind_of_number-kind.ensures _ c.columns-c.ensures.0 c.if-c-eq0.true)

pub returns-then-frame-ge8 : goal.returns-then-frame-ge8
returns-then-frame-ge8 c =
    let v = sym c.is_valid.ensures ∙ c.if-not-is_valid.false in
    valued values (frame_refused _ _ _ _ v _ c.kind_of_number-kind.ensures _ c.columns-c.ensures.0 c.if-c-eq0.false c.if-frame-ge8.true)

pub returns-then-bit-c : goal.returns-then-bit-c
returns-then-bit-c c =
    let v = sym c.is_valid.ensures ∙ c.if-not-is_valid.false in
    valued values (bit-refused _ _ _ _ v _ c.kind_of_number-kind.ensures _ c.columns-c.ensures.0 c.if-c-eq0.false c.if-frame-ge8.false c.if-bit-c.true)

pub standing-requires : goal.standing-requires
standing-requires c =
    let k = c.kind_of_number-kind.result in
    let says = valid-says c.args.state (sym c.is_valid.ensures ∙ c.if-not-is_valid.false) in (
      used k (λ z. c.if-c-eq0.false (c.columns-c.ensures.0 ∙ z)),
      says.1,
      omega arith,
      omega (arith, frame-holds k),
    )

pub returns : goal.returns
returns c =
    let v = sym c.is_valid.ensures ∙ c.if-not-is_valid.false in
    valued values
    (ap Ok c.standing.ensures
    ∙ inside _ _ _ _ v _ c.kind_of_number-kind.ensures _ c.columns-c.ensures.0 c.if-c-eq0.false (omega arith) (omega arith))
