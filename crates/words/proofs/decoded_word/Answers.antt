-- `decoded_word` meets its contract: the fields are those of the search. Assumes nothing.
use native.Mathlib.Omega.{arith}
use Rattle.words.specs.Words.{decoded_word}
use Rattle.words.proofs.decoded_word.Goals as goal

pub returns : goal.returns
unfolding decoded_word
returns c = omega (arith, c.place.ensures, c.number.ensures)
