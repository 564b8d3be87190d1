-- `find_px_in` meets its contract: state, mode and channel decide. Assumes nothing.
use mathlib.Core.Path.{ap, sym, ◌∙◌}
use Rattle.std.proofs.lemmas.Result.{err_from_is_err_and}
use Rattle.std.specs.Prelude.{Ok, Err}
use Rattle.runs.specs.declared.State.{State}
use Rattle.queries.specs.FinderPX.{found_px}
use Rattle.queries.proofs.Valued.{valued}
use Rattle.finding_px.specs.Finder.{as_in, values}
use Rattle.finding_px.proofs.Cases.{found_none, found-second, found-older}
use Rattle.finding_px.proofs.finder.find_px_in.Goals as goal

pub returns-then-not-is_valid : goal.returns-then-not-is_valid
returns-then-not-is_valid c = valued values (found_none _ _ _ _ _ (sym c.is_valid.ensures ∙ c.if-not-is_valid.true))

pub returns-then-is_named : goal.returns-then-is_named
returns-then-is_named c =
    let v = sym c.is_valid.ensures ∙ c.if-not-is_valid.false in
    valued values (c.find_second.ensures ∙ found-second _ _ _ _ _ v _ c.main_of-main.ensures (sym c.is_named.ensures ∙ c.if-is_named.true))

pub returns-in_err-found : goal.returns-in_err-found
returns-in_err-found c =
    let a = c.args in
    let v = sym c.is_valid.ensures ∙ c.if-not-is_valid.false in
    let e = err_from_is_err_and c.from_residual.result c.from_residual.ensures.1 in
    let o = c.as_older.ensures in
    valued values
    (e.1 ∙ ap Err e.2
    ∙ ap as_in (sym c.in_err-found.was ∙ c.find_px.ensures.0 ∙ ap (λ (s : State). found_px s a.channel a.pair a.row a.column) o)
    ∙ found-older _ _ _ _ _ v _ c.main_of-main.ensures (sym c.is_named.ensures ∙ c.if-is_named.false))

pub returns : goal.returns
returns c =
    let a = c.args in
    let v = sym c.is_valid.ensures ∙ c.if-not-is_valid.false in
    let o = c.as_older.ensures in
    valued values
    (ap Ok c.from.ensures
    ∙ ap as_in (sym c.in_ok-found.was ∙ c.find_px.ensures.0 ∙ ap (λ (s : State). found_px s a.channel a.pair a.row a.column) o)
    ∙ found-older _ _ _ _ _ v _ c.main_of-main.ensures (sym c.is_named.ensures ∙ c.if-is_named.false))
