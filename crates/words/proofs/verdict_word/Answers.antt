-- `verdict_word` meets its contract: the fields are those of the verdict. Assumes nothing.
use native.Mathlib.Omega.{arith}
use Rattle.words.specs.Words.{verdict_word}
use Rattle.words.proofs.verdict_word.Goals as goal

pub returns : goal.returns
unfolding verdict_word
returns c = omega (arith, c.place.ensures, c.number.ensures)
