-- `bits_in` meets its contract: the laws of `Sizes`. Assumes nothing.
use native.Mathlib.Omega.{arith}
use Rattle.workings_in.proofs.Sizes.{in-plain, in-mp5, in-mp6, few_bits}
use Rattle.workings_in.proofs.bits_in.Goals as goal

pub returns-in-Plain : goal.returns-in-Plain
returns-in-Plain c = (in-plain _ _ 0 c.in-Plain.is, omega arith)

pub returns-in-Mp5 : goal.returns-in-Mp5
returns-in-Mp5 c =
    let e = c.of_three.ensures in
    (in-mp5 _ _ _ c.in-Mp5.is e, few_bits _ _ _ _ _ _ e (omega arith) (omega arith) (omega arith))

pub returns-in-Mp6 : goal.returns-in-Mp6
returns-in-Mp6 c =
    let e = c.of_three-in-Mp6.ensures in
    (in-mp6 _ _ _ c.in-Mp6.is e, few_bits _ _ _ _ _ _ e (omega arith) (omega arith) (omega arith))
