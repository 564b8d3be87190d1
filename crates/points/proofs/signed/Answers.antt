-- `signed` meets its contract: the bit decides. Assumes nothing.
use borrow.Author.Tests.{eq-eqb, ne_eqb}
use Rattle.points.specs.Points.{part}
use Rattle.points.proofs.signed.Goals as goal

pub returns-then-bit-eq0 : goal.returns-then-bit-eq0
unfolding part
returns-then-bit-eq0 c = rw (eq-eqb _ _ c.if-bit-eq0.true)

pub returns : goal.returns
unfolding part
returns c = rw (ne_eqb _ _ c.if-bit-eq0.false)
