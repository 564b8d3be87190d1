-- `restoring::restore` meets its contract: the lengths come first, then what fits. Assumes nothing.
use Rattle.restoring.proofs.Lengths.{lengths-cells, lengths-frame, lengths-right, restored-wrong, restored-right}
use Rattle.restoring.proofs.restore.Goals as goal

pub returns-then-cells-ne200 : goal.returns-then-cells-ne200
returns-then-cells-ne200 c = restored-wrong _ _ _ (lengths-cells _ _ c.if-cells-ne200.true)

pub returns-then-frame-ne10 : goal.returns-then-frame-ne10
returns-then-frame-ne10 c = restored-wrong _ _ _ (lengths-frame _ _ c.if-cells-ne200.false c.if-frame-ne10.true)

pub returns : goal.returns
returns c =
    restored-right _ _ _ _ (lengths-right _ _ c.if-cells-ne200.false c.if-frame-ne10.false) c.fit.ensures
