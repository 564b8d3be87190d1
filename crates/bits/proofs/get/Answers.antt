-- `bits::get` meets its contract. Assumes nothing.
use native.Mathlib.Omega.{arith}
use lib.Bits.{and_le_r, and_mask}
use Rattle.bits.specs.Bits.{bit_at}
use Rattle.bits.proofs.get.Goals as goal

pub overflow_sub-result : goal.overflow_sub-result
overflow_sub-result c = omega (arith, and_le_r c.args.n 7)

pub returns : goal.returns
unfolding bit_at
returns c = rw (and_mask c.args.n 3, and_mask _ 1)
