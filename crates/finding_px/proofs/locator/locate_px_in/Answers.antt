-- `locate_px_in` meets its contract: state, mode and channel decide. Assumes nothing.
use mathlib.Core.Path.{ap, sym, ◌∙◌}
use Rattle.runs.specs.declared.State.{State}
use Rattle.queries.proofs.Valued.{valued}
use Rattle.locating.specs.LocatorPX.{located_px, values}
use Rattle.finding_px.proofs.Cases.{located-none, located-second, located-older}
use Rattle.finding_px.proofs.locator.locate_px_in.Goals as goal

pub returns-then-not-is_valid : goal.returns-then-not-is_valid
returns-then-not-is_valid c = valued values (located-none _ _ _ _ (sym c.is_valid.ensures ∙ c.if-not-is_valid.true))

pub returns-then-is_named : goal.returns-then-is_named
returns-then-is_named c =
    let v = sym c.is_valid.ensures ∙ c.if-not-is_valid.false in
    valued values (c.locate_second.ensures ∙ located-second _ _ _ _ v _ c.main_of-main.ensures (sym c.is_named.ensures ∙ c.if-is_named.true))

pub returns : goal.returns
returns c =
    let a = c.args in
    let v = sym c.is_valid.ensures ∙ c.if-not-is_valid.false in
    valued values
    (c.locate_px.ensures.0
    ∙ ap (λ (s : State). located_px s a.channel a.frame a.bit) c.as_older.ensures
    ∙ located-older _ _ _ _ v _ c.main_of-main.ensures (sym c.is_named.ensures ∙ c.if-is_named.false))
