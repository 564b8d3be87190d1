-- `px_lanes::lane_bit` meets its contract. Assumes nothing.
use native.Mathlib.Nat.{mod-lt}
use native.Mathlib.Omega.{arith}
use Rattle.interleaving.proofs.PXKinds.{kind-is}
use Rattle.px_lanes.specs.Laid.{lane_bit}
use Rattle.px_lanes.proofs.LaneLaws.{lane-step}
use Rattle.px_lanes.proofs.lane_bit.Goals as goal

pub step-s-requires : goal.step-s-requires
step-s-requires c =
    let K = kind-is c.args.kind c.requires.0 in
    (c.requires.0, rw c.partitions.ensures.0 (mod-lt c.args.p K.J-pos), omega (arith, c.requires.1, K.M-le))

pub overflow_sub-result : goal.overflow_sub-result
overflow_sub-result c =
    let a = c.args in
    let l = lane-step a.kind a.e a.p c.requires.0 c.requires.1 in
    rw (c.step-s.ensures, c.partitions.ensures.0) (omega (arith, l))

pub returns : goal.returns
unfolding lane_bit
returns c = (rw (c.step-s.ensures, c.partitions.ensures.0), omega arith)
