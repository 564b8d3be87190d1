-- `find_in_by` meets its contract: the match is the definition's. Assumes nothing.
use mathlib.Core.Path.{ap, sym, ◌∙◌}
use Rattle.std.proofs.lemmas.Result.{err_from_is_err_and}
use Rattle.std.specs.Prelude.{Ok, Err}
use Rattle.runs.specs.declared.Main.{Main}
use Rattle.queries.proofs.Valued.{valued}
use Rattle.finding.specs.Finder.{owner_in, values}
use Rattle.finding.proofs.Cases.{found_none, found-told}
use Rattle.finding.proofs.finder.find_in_by.Goals as goal

pub returns-then-not-is_covered : goal.returns-then-not-is_covered
returns-then-not-is_covered c = valued values (found_none _ _ _ (sym c.is_covered.ensures ∙ c.if-not-is_covered.true))

pub returns-in-P1 : goal.returns-in-P1
returns-in-P1 c =
    let is = sym c.is_covered.ensures ∙ c.if-not-is_covered.false in
    valued values
    (ap Ok (c.owner_of.ensures ∙ ap (λ (k : Main). owner_in k c.in-P1.bit) c.main_of.ensures)
    ∙ found-told _ _ _ is _ (sym c.find_by.ensures.0 ∙ c.in_ok-found.was ∙ ap Ok c.in-P1.is))

pub returns-in-Pids : goal.returns-in-Pids
returns-in-Pids c =
    let is = sym c.is_covered.ensures ∙ c.if-not-is_covered.false in
    valued values (found-told _ _ _ is _ (sym c.find_by.ensures.0 ∙ c.in_ok-found.was ∙ ap Ok c.in-Pids.is))

pub returns-in_err-found : goal.returns-in_err-found
returns-in_err-found c =
    let is = sym c.is_covered.ensures ∙ c.if-not-is_covered.false in
    let e = err_from_is_err_and c.from_residual.result c.from_residual.ensures.1 in
    valued values (e.1 ∙ ap Err e.2 ∙ found-told _ _ _ is _ (sym c.find_by.ensures.0 ∙ c.in_err-found.was))
