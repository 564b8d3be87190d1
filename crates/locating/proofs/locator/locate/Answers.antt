-- `locate` meets its contract: the channel decides. Assumes nothing.
use mathlib.Core.Path.{◌∙◌}
use Rattle.queries.proofs.Valued.{valued}
use Rattle.locating.specs.Locator.{values}
use Rattle.locating.proofs.CasesPM.{of-p1, of-pids, of_none}
use Rattle.locating.proofs.locator.locate.Goals as goal

pub returns-then-channel-eq1 : goal.returns-then-channel-eq1
returns-then-channel-eq1 c = valued values (c.locate_p1.ensures ∙ of-p1 _ _ _ c.if-channel-eq1.true)

pub returns-then-channel-eq2 : goal.returns-then-channel-eq2
returns-then-channel-eq2 c = valued values (c.locate_pids.ensures ∙ of-pids _ _ _ c.if-channel-eq1.false c.if-channel-eq2.true)

pub returns : goal.returns
returns c = valued values (of_none _ _ _ c.if-channel-eq1.false c.if-channel-eq2.false)
