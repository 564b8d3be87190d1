-- `coding::word_one` meets its contract. Assumes nothing.
use Rattle.coding.proofs.word_one.Goals as goal

pub returns-then-inverse : goal.returns-then-inverse
returns-then-inverse c = rw c.if-inverse.true c.bits_one.ensures

pub returns : goal.returns
returns c = rw c.if-inverse.false c.coded_one.ensures
