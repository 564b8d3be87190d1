use mathlib.Core.Path.{◌≡◌, ◌∙◌}
use native.Mathlib.Omega.{arith}
use Rattle.workings.specs.Shown.{weighed}
use Rattle.workings.proofs.Sums.{added_none, added_more, added-seven}
use Rattle.workings.proofs.weigh.Goals as goal

pub loop-d-init : goal.loop-d-init
loop-d-init c = (omega arith, added_none _, omega arith)

pub overflow_add-bits : goal.overflow_add-bits
overflow_add-bits c =
    let p = c.requires in
    let d = c.loop-d.d in
    omega (arith, p.0 d, p.1 d)

pub taken-sum-requires : goal.taken-sum-requires
taken-sum-requires c =
    let p = c.requires in
    let d = c.loop-d.d in
    omega (arith, p.0 d, p.1 d)

pub overflow_add-sum : goal.overflow_add-sum
overflow_add-sum c = omega (arith, c.taken-sum.ensures.1)

pub loop-d-preserved : goal.loop-d-preserved
loop-d-preserved c =
    let inv = c.loop-d.invariant in
    (omega arith, added_more _ _ _ _ inv.1 c.taken-sum.ensures.0, omega (arith, c.taken-sum.ensures.1))

pub returns : goal.returns
unfolding weighed
returns c =
    let k : c.loop-d.d ≡ 7 = omega arith in
    let inv = rw k at c.loop-d.invariant in
    (inv.1 ∙ added-seven _, omega arith)
