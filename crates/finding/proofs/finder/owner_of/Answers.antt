-- `owner_of` meets its contract: the test is the definition's. Assumes nothing.
use mathlib.Core.Path.{refl}
use Rattle.finding.proofs.Cases.{owner-p1, owner-p2}
use Rattle.finding.proofs.finder.owner_of.Goals as goal

pub returns-then-i-all : goal.returns-then-i-all
returns-then-i-all c =
    owner-p1 _ _ _ _ c.frame_coded-n.ensures.0 c.p1_coded-all.ensures.0 refl _ c.if-i-all.true

pub returns : goal.returns
returns c =
    owner-p2 _ _ _ _ c.frame_coded-n.ensures.0 c.p1_coded-all.ensures.0 refl _ c.if-i-all.false
