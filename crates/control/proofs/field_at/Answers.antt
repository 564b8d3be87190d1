use mathlib.Core.Path.{refl}
use native.Mathlib.Omega.{arith}
use Rattle.bits.specs.Bits.{number}
use Rattle.bits.proofs.Stores.{number-turn}
use Rattle.control.specs.Words.{decoded}
use Rattle.control.proofs.Decoding.{decoded-lt}
use Rattle.control.proofs.field_at.Goals as goal

pub loop-i-init : goal.loop-i-init
unfolding number
loop-i-init c = refl

pub loop-i-preserved : goal.loop-i-preserved
loop-i-preserved c =
    let a = c.args in
    let loop = c.loop-i in
    number-turn (decoded a.block.now) (decoded-lt a.block.now) a.row loop.i loop.x _ (omega arith) loop.invariant c.decoded_at.ensures
