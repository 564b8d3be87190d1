-- `found_word` meets its contract: the fields are those of the case. Assumes nothing.
use mathlib.Core.Path.{ap, ◌∙◌}
use native.Mathlib.Omega.{arith}
use Rattle.std.specs.Prelude.{Result, Ok}
use Rattle.runs.specs.declared.Answer.{Answer}
use Rattle.queries.specs.declared.finder.Found.{Found}
use Rattle.queries.specs.Finder.{values}
use Rattle.words.specs.Words.{answer_word, found_word}
use Rattle.words.proofs.found_word.Goals as goal

pub returns-in-Ok-P1 : goal.returns-in-Ok-P1
unfolding found_word
returns-in-Ok-P1 c =
    let e = rw c.in-Ok-P1.is at c.in-Ok-P1.field-0-is in
    omega (arith, ap (λ (x : Result Found Answer). found_word (values x)) (c.in-Ok-P1.is ∙ ap Ok e))

pub returns-in-Ok-Pids : goal.returns-in-Ok-Pids
unfolding found_word
returns-in-Ok-Pids c =
    let e = rw c.in-Ok-Pids.is at c.in-Ok-Pids.field-0-is in
    omega (arith, ap (λ (x : Result Found Answer). found_word (values x)) (c.in-Ok-Pids.is ∙ ap Ok e))

pub returns-in-Err : goal.returns-in-Err
unfolding found_word answer_word
returns-in-Err c = omega (arith, ap (λ (x : Result Found Answer). found_word (values x)) c.in-Err.is, c.answer_word.ensures)
