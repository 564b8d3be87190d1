-- `keep` meets its contract. Assumes nothing.
use native.Mathlib.Omega.{arith}
use lib.ListN.{length-set}
use Rattle.standard_input.proofs.keep.Goals as goal

pub returns-then-n-text : goal.returns-then-n-text
returns-then-n-text c = let a = c.args in omega (arith, c.if-n-text.true, length-set a.text.now a.n a.byte)
