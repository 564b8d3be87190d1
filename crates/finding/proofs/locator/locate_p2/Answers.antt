-- `locate_p2` meets its contract: the case that the tests chose. Assumes nothing.
use mathlib.Core.Path.{refl, ◌∙◌}
use Rattle.finding.proofs.Cases.{p2-none, p2-other-frame, p2-past, p2-at}
use Rattle.finding.proofs.locator.locate_p2.Goals as goal

pub returns-then-n-eq0 : goal.returns-then-n-eq0
returns-then-n-eq0 c =
    p2-none _ _ _ _ refl refl c.p2_coded-n.ensures.0 _ _ c.if-n-eq0.true

pub returns-then-frame-ge1 : goal.returns-then-frame-ge1
returns-then-frame-ge1 c =
    p2-other-frame _ _ _ _ refl refl c.p2_coded-n.ensures.0 _ _ c.if-n-eq0.false c.if-frame-ge1.true

pub returns-then-bit-n : goal.returns-then-bit-n
returns-then-bit-n c =
    p2-past _ _ _ _ refl refl c.p2_coded-n.ensures.0 _ _ c.if-n-eq0.false c.if-frame-ge1.false c.if-bit-n.true

pub returns : goal.returns
returns c =
    c.locate.ensures.0
    ∙ p2-at _ _ _ _ refl c.p1_coded.ensures.0 c.p2_coded-n.ensures.0 _ _ c.if-n-eq0.false c.if-frame-ge1.false c.if-bit-n.false
