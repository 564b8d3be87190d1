-- `slot_source` meets its contract. Assumes nothing.
use mathlib.Core.Path.{ap, ◌∙◌}
use Prim.Native.Nat.{ℕ, ◌-◌, ◌*◌}
use borrow.Author.Tests.{eq-eqb, ne_eqb}
use Rattle.subcarriers.specs.Slots.{slot_source, column_source, partition_source}
use Rattle.subcarriers.proofs.slot_source.Goals as goal

pub returns-then-step-eq0 : goal.returns-then-step-eq0
unfolding slot_source
returns-then-step-eq0 c = rw (eq-eqb _ _ c.if-step-eq0.true) (c.column_source.ensures ∙ ap column_source c.column.ensures)

pub returns : goal.returns
unfolding slot_source
returns c = rw (ne_eqb _ _ c.if-step-eq0.false) (c.partition_source.ensures ∙ ap (λ (p : ℕ). partition_source p (2 * (c.args.step - 1))) c.partition.ensures)
