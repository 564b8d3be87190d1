-- `in_mode` meets its contract: the age is the lower of it and 2. Assumes nothing.
use Rattle.finding_px.proofs.OlderPx.{age-capped, age-kept}
use Rattle.finding_px.proofs.older.in_mode.Goals as goal

pub returns-then-state-gt2 : goal.returns-then-state-gt2
returns-then-state-gt2 c = let a = c.args in age-capped a.mode a.state c.if-state-gt2.true

pub returns : goal.returns
returns c = let a = c.args in age-kept a.mode a.state c.if-state-gt2.false
