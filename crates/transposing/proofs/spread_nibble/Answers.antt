-- `transposing::spread_nibble` meets its contract: the four bits are 0 or 1. Assumes nothing.
use native.Mathlib.Omega.{arith}
use Rattle.transposing.specs.Words.{quad}
use Rattle.transposing.proofs.spread_nibble.Goals as goal

pub returns : goal.returns
unfolding quad
returns c = (omega arith, omega arith)
