-- `placed_word` meets its contract: the fields are those of the case. Assumes nothing.
use mathlib.Core.Path.{ap}
use native.Mathlib.Omega.{arith}
use Rattle.std.specs.Prelude.{Result}
use Rattle.runs.specs.declared.Answer.{Answer}
use Rattle.interleaving.specs.declared.Position.{Position}
use Rattle.queries.specs.Places.{values}
use Rattle.words.specs.Words.{answer_word, placed_word}
use Rattle.words.proofs.placed_word.Goals as goal

pub returns-in-Ok : goal.returns-in-Ok
unfolding placed_word
returns-in-Ok c = omega (arith, ap (λ (x : Result Position Answer). placed_word (values x)) c.in-Ok.is)

pub returns-in-Err : goal.returns-in-Err
unfolding placed_word answer_word
returns-in-Err c = omega (arith, ap (λ (x : Result Position Answer). placed_word (values x)) c.in-Err.is, c.answer_word.ensures)
