use mathlib.Core.Path.{refl}
use native.Mathlib.Omega.{arith}
use Rattle.bits.proofs.Listed.{filled_none, filled-turn, filled-all}
use Rattle.words.specs.Words.{eight_of}
use Rattle.words.proofs.eight.Goals as goal

pub loop-d-init : goal.loop-d-init
loop-d-init c = (omega arith, filled_none 8 _ _ refl)

pub loop-d-preserved : goal.loop-d-preserved
loop-d-preserved c = (omega arith, filled-turn _ c.loop-d.invariant.1 c.loop-d-test.true refl)

pub returns : goal.returns
unfolding eight_of
returns c = filled-all c.loop-d.invariant.1 c.loop-d-test.false c.loop-d.invariant.0
