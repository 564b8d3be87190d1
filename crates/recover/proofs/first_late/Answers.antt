-- `first_late` meets its contract: with no delay there is no second path, and before its age it has not come. Assumes nothing.
use mathlib.Core.Path.{sym, ◌∙◌}
use native.Mathlib.Omega.{arith}
use lib.Seq.{length-take-le}
use Rattle.recover.proofs.Mains.{has-delay, late-early, late-judged, late-none, no-delay}
use Rattle.recover.proofs.first_late.Goals as goal

pub returns-then-delay-eq0 : goal.returns-then-delay-eq0
returns-then-delay-eq0 c =
    λ s.
    let a = c.args in
    late-none a.main a.age a.second.now a.delay.now s (no-delay a.main a.delay.now c.requires.1 c.if-delay-eq0.true)

pub returns-then-age-lt3 : goal.returns-then-age-lt3
returns-then-age-lt3 c =
    λ s.
    let a = c.args in
    late-early a.main a.age a.second.now a.delay.now s (has-delay a.main a.delay.now c.requires.1 c.if-delay-eq0.false).0 c.if-age-lt3.true

pub slice_bounds-first_second-end : goal.slice_bounds-first_second-end
slice_bounds-first_second-end c =
    let a = c.args in
    let (e, h, l) = has-delay a.main a.delay.now c.requires.1 c.if-delay-eq0.false in
    sym (length-take-le _ _ (omega (arith, h, l)))

pub first_second-requires : goal.first_second-requires
first_second-requires c =
    let a = c.args in
    let (e, h, l) = has-delay a.main a.delay.now c.requires.1 c.if-delay-eq0.false in
    (c.requires.0, length-take-le _ _ (omega (arith, h, l)) ∙ h)

pub returns : goal.returns
returns c =
    λ s.
    let a = c.args in
    let (e, h, l) = has-delay a.main a.delay.now c.requires.1 c.if-delay-eq0.false in
    late-judged a.main a.age a.second.now a.delay.now s e c.if-age-lt3.false l _ _ h c.first_second.ensures
