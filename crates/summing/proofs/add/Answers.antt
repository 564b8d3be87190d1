use native.Mathlib.Omega.{arith}
use Rattle.bits.proofs.Stores.{stored-all}
use Rattle.summing.specs.Sums.{sum_of}
use Rattle.summing.proofs.Added.{adding-none, adding-turn}
use Rattle.summing.proofs.add.Goals as goal

pub loop-i-init : goal.loop-i-init
loop-i-init c = adding-none _ _

pub loop-i-preserved : goal.loop-i-preserved
loop-i-preserved c =
    let i = c.loop-i.i in
    adding-turn c.loop-i.invariant (omega (arith, c.loop-i.invariant.done.long))
    (omega (arith, c.slice_known-1.given i))
    (omega (arith, c.shared_slice_known-1.given i))
    c.byte_at.ensures

pub returns : goal.returns
unfolding sum_of
returns c = stored-all c.loop-i.invariant.done (omega (arith, c.loop-i.invariant.done.long))
