use mathlib.Core.Path.{refl}
use native.Mathlib.Omega.{arith}
use Rattle.allocation.specs.Allocation.{smaller}
use Rattle.bits.proofs.Listed.{filled_none, filled-turn, filled-all}
use borrow.Author.Rules.{rules}
use Rattle.allocation.proofs.smaller_each.Goals as goal

pub loop-d-init : goal.loop-d-init
loop-d-init c = (omega arith, filled_none 8 _ _ refl)

pub loop-d-preserved : goal.loop-d-preserved
loop-d-preserved c = (omega arith, filled-turn _ c.loop-d.invariant.1 c.loop-d-test.true (search rules))

pub returns : goal.returns
unfolding smaller
returns c = filled-all c.loop-d.invariant.1 c.loop-d-test.false c.loop-d.invariant.0
