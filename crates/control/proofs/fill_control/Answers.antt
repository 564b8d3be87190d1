use mathlib.Core.Path.{refl}
use native.Mathlib.Omega.{arith}
use Rattle.bits.specs.Bits.{packed}
use Rattle.control.proofs.Lent.{control-more, control-all}
use Rattle.control.proofs.fill_control.Goals as goal

pub loop-count-init : goal.loop-count-init
unfolding packed
loop-count-init c = refl

pub loop-count-preserved : goal.loop-count-preserved
loop-count-preserved c =
    let a = c.args in
    let loop = c.loop-count in
    control-more a.mode a.reserved loop.count loop.out _ (omega arith) (omega arith) loop.invariant c.fill_block.ensures

pub returns : goal.returns
returns c =
    let a = c.args in
    let loop = c.loop-count in
    control-all a.mode a.reserved loop.count loop.out (omega arith) (omega arith) loop.invariant
