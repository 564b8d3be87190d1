-- `bits::put` meets its contract. Assumes nothing.
use borrow.Author.Rules.{rules}
use native.Mathlib.Omega.{arith}
use lib.Bits.{and_le_r, and_mask}
use Rattle.bits.proofs.Replaced.{stored-put}
use Rattle.bits.proofs.put.Goals as goal

pub overflow_sub-u : goal.overflow_sub-u
overflow_sub-u c = omega (arith, and_le_r c.args.n 7)

pub returns : goal.returns
returns c =
    rw (and_mask c.args.n 3)
    (stored-put c.args.s.now c.args.n c.args.b (search rules) (search rules))
