-- `located_word` meets its contract: the word of the position, or of the refusal. Assumes nothing.
use mathlib.Core.Path.{ap, sym, ◌∙◌}
use native.Mathlib.Omega.{arith}
use Rattle.std.specs.Prelude.{Result}
use Rattle.runs.specs.declared.Answer.{Answer}
use Rattle.locating.specs.declared.locator.Located.{Located}
use Rattle.locating.specs.Locator.{values}
use Rattle.words.specs.Words.{answer_word, placed_word, located_word}
use Rattle.words.proofs.located_word.Goals as goal

pub returns-in-Ok : goal.returns-in-Ok
unfolding located_word
returns-in-Ok c = c.placed_word.ensures ∙ sym (ap (λ (x : Result Located Answer). located_word (values x)) c.in-Ok.is)

pub returns-in-Err : goal.returns-in-Err
unfolding located_word placed_word answer_word
returns-in-Err c = omega (arith, ap (λ (x : Result Located Answer). located_word (values x)) c.in-Err.is, c.answer_word.ensures)
