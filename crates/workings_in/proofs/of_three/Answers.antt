-- `of_three` meets its contract: the laws of `Sizes`. Assumes nothing.
use Rattle.workings_in.proofs.Sizes.{of-first, of-fifth, of-sixth, of_none}
use Rattle.workings_in.proofs.of_three.Goals as goal

pub returns-then-channel-eq1 : goal.returns-then-channel-eq1
returns-then-channel-eq1 c = of-first _ _ _ _ c.if-channel-eq1.true

pub returns-then-channel-eq5 : goal.returns-then-channel-eq5
returns-then-channel-eq5 c = of-fifth _ _ _ _ c.if-channel-eq1.false c.if-channel-eq5.true

pub returns-then-channel-eq6 : goal.returns-then-channel-eq6
returns-then-channel-eq6 c = of-sixth _ _ _ _ c.if-channel-eq1.false c.if-channel-eq5.false c.if-channel-eq6.true

pub returns : goal.returns
returns c = of_none _ _ _ _ c.if-channel-eq1.false c.if-channel-eq5.false c.if-channel-eq6.false
