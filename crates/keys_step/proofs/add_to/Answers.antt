-- `add_to` meets its contract. Assumes nothing.
use Rattle.keys_step.proofs.Steps.{began, went_on}
use Rattle.keys_step.proofs.add_to.Goals as goal

pub returns-then-run-eq0 : goal.returns-then-run-eq0
returns-then-run-eq0 c = began _ _ _ _ c.if-run-eq0.true c.copy.ensures

pub returns : goal.returns
returns c = went_on _ _ _ _ c.if-run-eq0.false c.add.ensures
