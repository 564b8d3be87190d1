-- `show` meets its contract: the law `shown-is`. Assumes nothing.
use native.Mathlib.Omega.{arith}
use Rattle.bits.specs.Bits.{bit_at}
use Rattle.bits.proofs.Packed.{bit_at_lt}
use Rattle.coding.specs.Channel.{part}
use Rattle.workings.proofs.Outputs.{number_lt, coded-few}
use Rattle.workings.proofs.Cases.{shown-is, seven-small, sequence-lt, start_small}
use Rattle.workings.proofs.show.Goals as goal

pub output_of-o-requires : goal.output_of-o-requires
output_of-o-requires c =
    coded-few c.args.rate c.args.n c.args.m c.requires.1 c.requires.5

pub overflow_mul-frame : goal.overflow_mul-frame
overflow_mul-frame c =
    omega (arith, start_small c.args.frame c.args.n c.requires.3 c.requires.1)

pub seven_bits-bits-requires : goal.seven_bits-bits-requires
seven_bits-bits-requires c = (
  c.requires.0,
  c.requires.1,
  rw c.output_of-o.ensures.0 (number_lt c.args.rate c.args.n c.args.m c.requires.2 c.requires.5),
  start_small c.args.frame c.args.n c.requires.3 c.requires.1,
  c.requires.4,
)

pub seven_added-scrambling-requires : goal.seven_added-scrambling-requires
seven_added-scrambling-requires c =
    (c.requires.0, c.requires.1, rw c.output_of-o.ensures.0 (number_lt c.args.rate c.args.n c.args.m c.requires.2 c.requires.5))

pub weigh-sum-requires : goal.weigh-sum-requires
weigh-sum-requires c = (
  λ d. rw c.seven_bits-bits.ensures (seven-small _ (λ i. bit_at_lt _ _) d),
  λ d. rw c.seven_added-scrambling.ensures (seven-small _ (λ i. sequence-lt _) d),
)

pub returns : goal.returns
returns c =
    let a = c.args in
    let o = c.output_of-o in
    shown-is a.rate a.n (part a.n a.frame (bit_at a.frames.now)) a.m _ _ _ _ _ _
    o.ensures.0 o.ensures.1 c.seven_bits-bits.ensures c.seven_added-scrambling.ensures c.weigh-sum.ensures.0
