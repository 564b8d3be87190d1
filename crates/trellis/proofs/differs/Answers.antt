-- `trellis::differs` meets its contract. Assumes nothing.
use native.Mathlib.Omega.{arith}
use borrow.Author.Tests.{le-ltb, lt-ltb, eq-eqb, ne_eqb}
use Rattle.trellis.specs.Cells.{differs}
use Rattle.trellis.proofs.differs.Goals as goal

pub returns-then-cell-ge2 : goal.returns-then-cell-ge2
unfolding differs
returns-then-cell-ge2 c = (rw (le-ltb _ 2 c.if-cell-ge2.true), omega arith)

pub returns-then-cell-b : goal.returns-then-cell-b
unfolding differs
returns-then-cell-b c = (rw (lt-ltb _ 2 c.if-cell-ge2.false, eq-eqb _ _ c.if-cell-b.true), omega arith)

pub returns : goal.returns
unfolding differs
returns c = (rw (lt-ltb _ 2 c.if-cell-ge2.false, ne_eqb _ _ c.if-cell-b.false), omega arith)
