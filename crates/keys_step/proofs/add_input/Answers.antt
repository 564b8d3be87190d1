-- `add_input` meets its contract: the input ends early, its number is too high, or it is added. Assumes nothing.
use mathlib.Core.Path.{refl}
use native.Mathlib.Omega.{arith}
use Rattle.keys_step.proofs.Steps.{taken, too-high, too_short}
use Rattle.keys_step.proofs.add_input.Goals as goal

pub returns-then-input-sum : goal.returns-then-input-sum
returns-then-input-sum c = (c.put_not_taken-length.ensures.0, too_short c.args.run c.args.frame _ _ _ c.if-input-sum.true c.put_not_taken-length.ensures.1)

pub returns-then-number-gt7 : goal.returns-then-number-gt7
returns-then-number-gt7 c = (c.put_not_taken-length-then-number-gt7.ensures.0, too-high c.args.run c.args.frame _ _ _ _ c.if-input-sum.false c.number_of-number.ensures c.if-number-gt7.true c.put_not_taken-length-then-number-gt7.ensures.1)

pub returns : goal.returns
returns c =
    let a = c.args in
    taken a.run a.frame _ _ _ _ _ c.if-input-sum.false c.number_of-number.ensures (omega (arith, c.if-number-gt7.false)) c.add_to.ensures refl
