-- `main_of` meets its contract: the case that the tests chose. Assumes nothing.
use borrow.Author.Tests.{eq-eqb, ne_eqb}
use Rattle.runs.specs.MainChannels.{main_of}
use Rattle.modes.proofs.main_of.Goals as goal

pub returns-then-mode-eq5 : goal.returns-then-mode-eq5
unfolding main_of
returns-then-mode-eq5 c = rw (eq-eqb _ _ c.if-mode-eq5.true)

pub returns-then-mode-eq6 : goal.returns-then-mode-eq6
unfolding main_of
returns-then-mode-eq6 c = rw (ne_eqb _ _ c.if-mode-eq5.false, eq-eqb _ _ c.if-mode-eq6.true)

pub returns : goal.returns
unfolding main_of
returns c = rw (ne_eqb _ _ c.if-mode-eq5.false, ne_eqb _ _ c.if-mode-eq6.false)
