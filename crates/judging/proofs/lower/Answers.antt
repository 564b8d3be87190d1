-- `lower` meets its contract. Assumes nothing.
use borrow.Author.Tests.{eq-eqb, le-ltb, lt-ltb, ne_eqb}
use Rattle.judging.proofs.lower.Goals as goal

pub returns-then-late-eq8 : goal.returns-then-late-eq8
returns-then-late-eq8 c = rw (eq-eqb _ _ c.if-late-eq8.true)

pub returns-then-late-place : goal.returns-then-late-place
returns-then-late-place c = rw (ne_eqb _ _ c.if-late-eq8.false, lt-ltb _ _ c.if-late-place.true)

pub returns : goal.returns
returns c = rw (ne_eqb _ _ c.if-late-eq8.false, le-ltb _ _ c.if-late-place.false)
