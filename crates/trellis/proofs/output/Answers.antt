-- `trellis::output` meets its contract: the masks are those of the generators. Assumes nothing.
use mathlib.Core.Path.{◌∙◌}
use native.Mathlib.Omega.{arith}
use lib.ListN.{get_or}
use lib.Bits.{bit_and, and_mask}
use lib.Count.{ones}
use borrow.Author.Rules.{rules}
use Rattle.trellis.proofs.Outputs.{masks, mask-output}
use Rattle.trellis.proofs.output.Goals as goal

pub overflow_cast-result : goal.overflow_cast-result
overflow_cast-result c = omega (arith, and_mask (ones (bit_and c.args.w (get_or masks c.args.k 0))) 1)

pub returns : goal.returns
returns c = and_mask _ 1 ∙ mask-output c.args.k c.args.w (search rules) (search rules)
