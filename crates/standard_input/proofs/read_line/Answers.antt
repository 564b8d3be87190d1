use mathlib.Core.Path.{refl}
use native.Mathlib.Omega.{arith}
use borrow.Author.Rules.{rules}
use Rattle.io.proofs.Counting.{prefix_len_of_le}
use Rattle.standard_input.proofs.read_line.Goals as goal

pub loop-init : goal.loop-init
loop-init g c = (omega arith, refl)

pub keep-n-requires : goal.keep-n-requires
keep-n-requires g c = c.loop.invariant.0

pub loop-preserved : goal.loop-preserved
loop-preserved g c = (c.keep-n.ensures, search rules)

pub shape_of-text : goal.shape_of-text
shape_of-text g c = c.loop.invariant.1

pub returns : goal.returns
returns g c = prefix_len_of_le _ _ c.loop.invariant.0
