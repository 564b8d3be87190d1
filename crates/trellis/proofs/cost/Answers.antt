-- `trellis::cost` meets its contract. Assumes nothing.
use Rattle.trellis.proofs.Outputs.{even-cost, odd-cost}
use Rattle.trellis.proofs.cost.Goals as goal

pub returns-then-j-eq0 : goal.returns-then-j-eq0
returns-then-j-eq0 c =
    let a = c.args in
    even-cost a.cells.now a.j a.y _ _ c.differs.ensures.0 c.differs-2.ensures.0 _ c.differs-then-j-eq0.ensures.0 c.if-j-eq0.true

pub returns : goal.returns
returns c =
    let a = c.args in
    odd-cost a.cells.now a.j a.y _ _ c.differs.ensures.0 c.differs-2.ensures.0 c.if-j-eq0.false
