-- `admit` meets its contract: the case that the tests chose. Assumes nothing.
use mathlib.Core.Path.{sym, ◌∙◌}
use Rattle.mapping.proofs.VectorCases.{mode-refused, length-refused, symbol-refused, lower-refused, upper-refused, accepted}
use Rattle.mapping.proofs.vectors.admit.Goals as goal

pub returns-then-not-is_mapped : goal.returns-then-not-is_mapped
returns-then-not-is_mapped c = mode-refused _ _ _ _ _ (sym c.is_mapped.ensures ∙ c.if-not-is_mapped.true)

pub returns-then-place-have : goal.returns-then-place-have
returns-then-place-have c = length-refused _ _ _ _ _ _ _ (sym c.is_mapped.ensures ∙ c.if-not-is_mapped.false) c.first_wrong-place.ensures c.if-place-have.true

pub returns-then-symbol-ge512 : goal.returns-then-symbol-ge512
returns-then-symbol-ge512 c = symbol-refused _ _ _ _ _ _ _ (sym c.is_mapped.ensures ∙ c.if-not-is_mapped.false) c.first_wrong-place.ensures c.if-place-have.false c.if-symbol-ge512.true

pub returns-then-not-is_usable : goal.returns-then-not-is_usable
returns-then-not-is_usable c = lower-refused _ _ _ _ _ _ _ (sym c.is_mapped.ensures ∙ c.if-not-is_mapped.false) c.first_wrong-place.ensures c.if-place-have.false c.if-symbol-ge512.false (sym c.is_usable.ensures ∙ c.if-not-is_usable.true)

pub returns-then-not-is_usable-2 : goal.returns-then-not-is_usable-2
returns-then-not-is_usable-2 c = upper-refused _ _ _ _ _ _ _ (sym c.is_mapped.ensures ∙ c.if-not-is_mapped.false) c.first_wrong-place.ensures c.if-place-have.false c.if-symbol-ge512.false (sym c.is_usable.ensures ∙ c.if-not-is_usable.false) (sym c.is_usable-2.ensures ∙ c.if-not-is_usable-2.true)

pub returns : goal.returns
returns c = accepted _ _ _ _ _ _ _ (sym c.is_mapped.ensures ∙ c.if-not-is_mapped.false) c.first_wrong-place.ensures c.if-place-have.false c.if-symbol-ge512.false (sym c.is_usable.ensures ∙ c.if-not-is_usable.false) (sym c.is_usable-2.ensures ∙ c.if-not-is_usable-2.false)
