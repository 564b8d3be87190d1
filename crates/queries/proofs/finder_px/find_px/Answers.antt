-- `find_px` meets its contract: the case that the tests chose. Assumes nothing.
use mathlib.Core.Path.{sym, ap, ◌∙◌}
use native.Mathlib.Omega.{arith}
use Rattle.std.specs.Prelude.{Ok}
use Rattle.calls.proofs.Admitted.{valid-says}
use Rattle.queries.specs.FinderPX.{values}
use Rattle.queries.proofs.CasesPX.{state-refused, channel-refused, pair-refused, row-refused, column-refused, inside}
use Rattle.queries.proofs.Origins.{used}
use Rattle.queries.proofs.Valued.{valued}
use Rattle.queries.proofs.finder_px.find_px.Goals as goal

pub returns-then-not-is_valid : goal.returns-then-not-is_valid
returns-then-not-is_valid c = valued values (state-refused _ _ _ _ _ (sym c.is_valid.ensures ∙ c.if-not-is_valid.true))

pub returns-then-n-eq0 : goal.returns-then-n-eq0
returns-then-n-eq0 c =
    valued values
    (channel-refused _ _ _ _ _ (sym c.is_valid.ensures ∙ c.if-not-is_valid.false) _ c.kind_of_number-kind.ensures _ c.columns-n.ensures.0
    c.if-n-eq0.true)

pub returns-then-pair-ge8 : goal.returns-then-pair-ge8
returns-then-pair-ge8 c =
    valued values
    (pair-refused _ _ _ _ _ (sym c.is_valid.ensures ∙ c.if-not-is_valid.false) _ c.kind_of_number-kind.ensures _ c.columns-n.ensures.0
    c.if-n-eq0.false c.if-pair-ge8.true)

pub returns-then-row-ge64 : goal.returns-then-row-ge64
returns-then-row-ge64 c =
    valued values
    (row-refused _ _ _ _ _ (sym c.is_valid.ensures ∙ c.if-not-is_valid.false) _ c.kind_of_number-kind.ensures _ c.columns-n.ensures.0
    c.if-n-eq0.false c.if-pair-ge8.false c.if-row-ge64.true)

pub returns-then-column-n : goal.returns-then-column-n
returns-then-column-n c =
    valued values
    (column-refused _ _ _ _ _ (sym c.is_valid.ensures ∙ c.if-not-is_valid.false) _ c.kind_of_number-kind.ensures _ c.columns-n.ensures.0
    c.if-n-eq0.false c.if-pair-ge8.false c.if-row-ge64.false (omega arith))

pub content-requires : goal.content-requires
content-requires c =
    let s = c.args.state in
    let k = c.kind_of_number-kind.result in
    let says = valid-says s (sym c.is_valid.ensures ∙ c.if-not-is_valid.false) in (
      used k (λ z. c.if-n-eq0.false (c.columns-n.ensures.0 ∙ z)),
      says.1,
      omega arith,
      omega arith,
    )

pub returns : goal.returns
returns c =
    valued values
    (ap Ok c.content.ensures
    ∙ inside _ _ _ _ _ (sym c.is_valid.ensures ∙ c.if-not-is_valid.false) _ c.kind_of_number-kind.ensures _ c.columns-n.ensures.0
    c.if-n-eq0.false (omega arith) (omega arith) (omega arith))
