-- `kind_of_number` meets its contract: the mode and the channel decide. Assumes nothing.
use borrow.Author.Tests.{eq-eqb, ne_eqb}
use Rattle.queries.specs.FinderPX.{kind_of_number}
use Rattle.queries.proofs.finder_px.kind_of_number.Goals as goal

pub returns-then-mode-eq5 : goal.returns-then-mode-eq5
unfolding kind_of_number
returns-then-mode-eq5 c = rw (eq-eqb _ _ c.if-mode-eq5.true)

pub returns-then-channel-eq3 : goal.returns-then-channel-eq3
unfolding kind_of_number
returns-then-channel-eq3 c = rw (ne_eqb _ _ c.if-mode-eq5.false, eq-eqb _ _ c.if-channel-eq3.true) c.kind_of.ensures

pub returns-then-channel-eq4 : goal.returns-then-channel-eq4
unfolding kind_of_number
returns-then-channel-eq4 c = rw (ne_eqb _ _ c.if-mode-eq5.false, ne_eqb _ _ c.if-channel-eq3.false, eq-eqb _ _ c.if-channel-eq4.true) c.kind_of-then-channel-eq4.ensures

pub returns : goal.returns
unfolding kind_of_number
returns c = rw (ne_eqb _ _ c.if-mode-eq5.false, ne_eqb _ _ c.if-channel-eq3.false, ne_eqb _ _ c.if-channel-eq4.false)
