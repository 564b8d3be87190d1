-- `found_px_in_word` meets its contract: the fields are those of the case. Assumes nothing.
use mathlib.Core.Path.{ap, ◌∙◌}
use native.Mathlib.Omega.{arith}
use Rattle.std.specs.Prelude.{Result, Ok}
use Rattle.runs.specs.declared.Answer.{Answer}
use Rattle.finding_px.specs.declared.finder.FoundPxIn.{FoundPxIn}
use Rattle.finding_px.specs.Finder.{values}
use Rattle.words.specs.Words.{answer_word}
use Rattle.exported_places.specs.Found.{found_px_in_word}
use Rattle.exported_places.proofs.found.found_px_in_word.Goals as goal

pub returns-in-Ok-Coded : goal.returns-in-Ok-Coded
unfolding found_px_in_word
returns-in-Ok-Coded c =
    let e = rw c.in-Ok-Coded.is at c.in-Ok-Coded.field-0-is in
    omega (arith, ap (λ (x : Result FoundPxIn Answer). found_px_in_word (values x)) (c.in-Ok-Coded.is ∙ ap Ok e))

pub returns-in-Ok-Fill : goal.returns-in-Ok-Fill
unfolding found_px_in_word
returns-in-Ok-Fill c =
    let e = rw c.in-Ok-Fill.is at c.in-Ok-Fill.field-0-is in
    omega (arith, ap (λ (x : Result FoundPxIn Answer). found_px_in_word (values x)) (c.in-Ok-Fill.is ∙ ap Ok e))

pub returns-in-Ok-Second : goal.returns-in-Ok-Second
unfolding found_px_in_word
returns-in-Ok-Second c =
    let e = rw c.in-Ok-Second.is at c.in-Ok-Second.field-0-is in
    omega (arith, ap (λ (x : Result FoundPxIn Answer). found_px_in_word (values x)) (c.in-Ok-Second.is ∙ ap Ok e))

pub returns-in-Ok-DelayZero : goal.returns-in-Ok-DelayZero
unfolding found_px_in_word
returns-in-Ok-DelayZero c =
    let e = rw c.in-Ok-DelayZero.is at c.in-Ok-DelayZero.field-0-is in
    omega (arith, ap (λ (x : Result FoundPxIn Answer). found_px_in_word (values x)) (c.in-Ok-DelayZero.is ∙ ap Ok e))

pub returns-in-Err : goal.returns-in-Err
unfolding found_px_in_word answer_word
returns-in-Err c = omega (arith, ap (λ (x : Result FoundPxIn Answer). found_px_in_word (values x)) c.in-Err.is, c.answer_word.ensures)
