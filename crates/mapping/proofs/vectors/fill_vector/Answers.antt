-- `fill_vector` meets its contract: a refusal leaves the vector, and a success leaves what filling ensures. Assumes nothing.
use mathlib.Core.Path.{refl}
use Rattle.calls.specs.Called.{signal}
use Rattle.mapping.proofs.VectorCases.{kept, done, fillable}
use Rattle.causes.proofs.Success.{refused}
use Rattle.mapping.proofs.vectors.fill_vector.Goals as goal

pub returns-then-not-is_success : goal.returns-then-not-is_success
returns-then-not-is_success c =
    let a = c.args in
    let g = signal a.pm.now a.px1.now a.px2.now a.control.now in
    kept a.mode a.symbol a.lower a.upper g a.re.now a.im.now _ _ _
    refl c.lengths-want.ensures c.admit-answer.ensures (refused c.is_success.ensures c.if-not-is_success.true)

pub fill_points-requires : goal.fill_points-requires
fill_points-requires c =
    let a = c.args in
    let g = signal a.pm.now a.px1.now a.px2.now a.control.now in
    fillable a.mode a.symbol a.lower a.upper g a.re.now a.im.now _ _ _
    refl c.lengths-want.ensures c.admit-answer.ensures (c.is_success.ensures.0 c.if-not-is_success.false)

pub returns : goal.returns
returns c =
    let a = c.args in
    let g = signal a.pm.now a.px1.now a.px2.now a.control.now in
    done a.mode a.symbol a.lower a.upper g a.re.now a.im.now _ _ _
    refl c.lengths-want.ensures c.admit-answer.ensures (c.is_success.ensures.0 c.if-not-is_success.false) _ _ c.fill_points.ensures.0 c.fill_points.ensures.1
