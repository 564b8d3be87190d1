-- `found_px_word` meets its contract: the fields are those of the case. Assumes nothing.
use mathlib.Core.Path.{ap, ◌∙◌}
use native.Mathlib.Omega.{arith}
use Rattle.std.specs.Prelude.{Result, Ok}
use Rattle.runs.specs.declared.Answer.{Answer}
use Rattle.queries.specs.declared.finder_px.FoundPx.{FoundPx}
use Rattle.queries.specs.FinderPX.{values}
use Rattle.words.specs.Words.{answer_word, found_px_word}
use Rattle.words.proofs.found_px_word.Goals as goal

pub returns-in-Ok-Coded : goal.returns-in-Ok-Coded
unfolding found_px_word
returns-in-Ok-Coded c =
    let e = rw c.in-Ok-Coded.is at c.in-Ok-Coded.field-0-is in
    omega (arith, ap (λ (x : Result FoundPx Answer). found_px_word (values x)) (c.in-Ok-Coded.is ∙ ap Ok e))

pub returns-in-Ok-Fill : goal.returns-in-Ok-Fill
unfolding found_px_word
returns-in-Ok-Fill c =
    let e = rw c.in-Ok-Fill.is at c.in-Ok-Fill.field-0-is in
    omega (arith, ap (λ (x : Result FoundPx Answer). found_px_word (values x)) (c.in-Ok-Fill.is ∙ ap Ok e))

pub returns-in-Err : goal.returns-in-Err
unfolding found_px_word answer_word
returns-in-Err c = omega (arith, ap (λ (x : Result FoundPx Answer). found_px_word (values x)) c.in-Err.is, c.answer_word.ensures)
