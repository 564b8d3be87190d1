use mathlib.Core.Path.{refl, ap, ◌∙◌}
use native.Mathlib.Omega.{arith}
use Rattle.bits.proofs.Listed.{filled_none, filled-turn, filled-all}
use Rattle.coding.specs.Coder.{back}
use Rattle.scrambling.specs.Scrambler.{sequence}
use Rattle.workings.proofs.seven_added.Goals as goal

pub loop-d-init : goal.loop-d-init
loop-d-init c = (omega arith, filled_none 7 _ _ refl)

pub back-requires : goal.back-requires
back-requires c = (omega arith, omega arith, omega arith, omega arith)

pub loop-d-preserved : goal.loop-d-preserved
loop-d-preserved c =
    (omega arith, filled-turn _ c.loop-d.invariant.1 c.loop-d-test.true (c.sequence_bit.ensures ∙ ap sequence c.back.ensures.0))

pub returns : goal.returns
returns c = filled-all c.loop-d.invariant.1 c.loop-d-test.false c.loop-d.invariant.0
