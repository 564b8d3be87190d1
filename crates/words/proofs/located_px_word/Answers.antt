-- `located_px_word` meets its contract: the fields are those of the case. Assumes nothing.
use mathlib.Core.Path.{ap}
use native.Mathlib.Omega.{arith}
use Rattle.std.specs.Prelude.{Result}
use Rattle.runs.specs.declared.Answer.{Answer}
use Rattle.locating.specs.declared.locator_px.LocatedPx.{LocatedPx}
use Rattle.locating.specs.LocatorPX.{values}
use Rattle.words.specs.Words.{answer_word, located_px_word}
use Rattle.words.proofs.located_px_word.Goals as goal

pub returns-in-Ok : goal.returns-in-Ok
unfolding located_px_word
returns-in-Ok c = omega (arith, ap (λ (x : Result LocatedPx Answer). located_px_word (values x)) c.in-Ok.is)

pub returns-in-Err : goal.returns-in-Err
unfolding located_px_word answer_word
returns-in-Err c = omega (arith, ap (λ (x : Result LocatedPx Answer). located_px_word (values x)) c.in-Err.is, c.answer_word.ensures)
