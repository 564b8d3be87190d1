-- `ends` meets its contract. Assumes nothing.
use Rattle.sheetinputs.proofs.inputs.ends.Goals as goal

pub returns-then-fresh : goal.returns-then-fresh
returns-then-fresh c = rw c.if-fresh.true

pub returns : goal.returns
returns c = rw c.if-fresh.false
