-- `locate_p1` meets its contract: the case that the tests chose. Assumes nothing.
use mathlib.Core.Path.{refl, ◌∙◌}
use native.Mathlib.Omega.{arith}
use Rattle.finding.proofs.Cases.{frame-out, bit-out, bit_in, small}
use Rattle.finding.proofs.locator.locate_p1.Goals as goal

pub returns-then-frame-p1_coded : goal.returns-then-frame-p1_coded
returns-then-frame-p1_coded c =
    frame-out _ _ _ _ c.frame_coded-n.ensures.0 c.p1_coded.ensures.0 refl _ _ c.if-frame-p1_coded.true

pub returns-then-bit-n : goal.returns-then-bit-n
returns-then-bit-n c =
    bit-out _ _ _ _ c.frame_coded-n.ensures.0 c.p1_coded.ensures.0 refl _ _ c.if-frame-p1_coded.false c.if-bit-n.true

pub overflow_mul-frame : goal.overflow_mul-frame
overflow_mul-frame c =
    let s = small c.args.main _ _ _ c.frame_coded-n.ensures.0 c.p1_coded.ensures.0 refl _ _ c.if-frame-p1_coded.false c.if-bit-n.false in
    omega (arith, s)

pub overflow_add-frame : goal.overflow_add-frame
overflow_add-frame c =
    let s = small c.args.main _ _ _ c.frame_coded-n.ensures.0 c.p1_coded.ensures.0 refl _ _ c.if-frame-p1_coded.false c.if-bit-n.false in
    omega (arith, s)

pub returns : goal.returns
returns c =
    c.locate.ensures.0 ∙ bit_in _ _ _ _ c.frame_coded-n.ensures.0 c.p1_coded.ensures.0 refl _ _ c.if-frame-p1_coded.false c.if-bit-n.false
