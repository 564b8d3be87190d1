-- `px_gather::counter` meets its contract. Assumes nothing.
use mathlib.Core.Path.{◌≡◌}
use Prim.Native.Nat.{◌-◌, ◌/◌, ◌%◌, ◌<◌}
use native.Mathlib.Nat.{mul-le-mul_left}
use native.Mathlib.Omega.{arith}
use lib.Bits.{bit_and}
use Rattle.interleaving.specs.PX.{runs}
use Rattle.px_steps.proofs.Words.{mask-of-M}
use Rattle.px_gather.proofs.counter.Goals as goal
use Rattle.px_gather.proofs.counter.Goals.{After-runs-m}

-- the remainder by the mask
rest-is : (c : After-runs-m)
    → let rest = bit_and c.args.x (c.runs-m.result - 1) in
    (rest ≡ c.args.x % runs c.args.kind) × (rest < 4)
rest-is c = mask-of-M c.args.kind c.requires.0 c.args.x c.runs-m.result c.runs-m.ensures.0

pub overflow_mul-result : goal.overflow_mul-result
overflow_mul-result c = omega (arith, mul-le-mul_left (c.args.x / 8) c.runs-m.ensures.2)

pub overflow_add-result : goal.overflow_add-result
overflow_add-result c = omega (arith, (rest-is c).1, mul-le-mul_left (c.args.x / 8) c.runs-m.ensures.2)

pub overflow_sub-result-2 : goal.overflow_sub-result-2
overflow_sub-result-2 c = rw (c.missed.ensures.0, (rest-is (goal.at.overflow_sub-result-2 c).After-runs-m).0, c.runs-m.ensures.0) c.requires.2

pub returns : goal.returns
returns c =
    rw (c.missed.ensures.0, (rest-is (goal.at.returns c).After-runs-m).0, c.runs-m.ensures.0) (omega (arith, c.requires.2))
