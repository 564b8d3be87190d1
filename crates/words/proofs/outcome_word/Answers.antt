-- `outcome_word` meets its contract: the fields are those of the answer and the state. Assumes nothing.
use native.Mathlib.Omega.{arith}
use Rattle.words.specs.Words.{outcome_word}
use Rattle.words.proofs.Fields.{number-told}
use Rattle.words.proofs.outcome_word.Goals as goal

pub returns : goal.returns
unfolding outcome_word
returns c =
    number-told c.args.answer c.args.state _ (omega arith) (omega arith) (omega arith) c.requires
    (omega (arith, c.place.ensures, c.number.ensures))
