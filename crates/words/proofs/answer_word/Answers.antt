-- `answer_word` meets its contract: number and place, each in its field. Assumes nothing.
use native.Mathlib.Omega.{arith}
use Rattle.words.specs.Words.{answer_word}
use Rattle.words.proofs.answer_word.Goals as goal

pub returns : goal.returns
unfolding answer_word
returns c = omega (arith, c.number-cause.ensures, c.place-at.ensures)
