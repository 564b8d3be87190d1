-- `first_cause` meets its contract: the case that the tests chose. Assumes nothing.
use native.Mathlib.Omega.{arith}
use borrow.Author.Rules.{rules}
use Rattle.calls.proofs.Admitted.{state-refused, number-refused, length-refused, accepted}
use Rattle.calls.proofs.admission.first_cause.Goals as goal

pub returns-then-not-is_valid : goal.returns-then-not-is_valid
returns-then-not-is_valid c = state-refused _ _ _ (c.if-not-is_valid.true)

pub returns-then-reserved-gt7 : goal.returns-then-reserved-gt7
returns-then-reserved-gt7 c = number-refused _ _ (search rules) _ (omega (arith, c.if-reserved-gt7.true))

pub returns-then-place-places : goal.returns-then-place-places
returns-then-place-places c =
    length-refused _ _ (c.if-not-is_valid.false) (omega arith) _ _ c.if-place-places.true

pub returns : goal.returns
returns c =
    accepted _ _ (c.if-not-is_valid.false) (omega (arith, c.if-reserved-gt7.false)) _ _ c.if-place-places.false
