-- `times_of` meets its contract: a part that is not zero is as large as its scale. Assumes nothing.
use lib.Ieee.{of_bits}
use Rattle.vector_step.proofs.Parts.{is-scale, is_zero}
use Rattle.vector_step.proofs.numbers.times_of.Goals as goal

pub returns-then-part : goal.returns-then-part
unfolding of_bits
returns-then-part c = is_zero c.args.times c.args.part c.requires c.if-part.true

pub returns : goal.returns
unfolding of_bits
returns c = is-scale c.args.times c.args.part c.requires c.if-part.false
