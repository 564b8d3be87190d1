-- `start_side` meets its contract: the case that the tests chose. Assumes nothing.
use mathlib.Core.Path.{sym, ap, ◌∙◌}
use Rattle.runs.specs.MainChannels.{delay_len}
use Rattle.calls.proofs.StartCases.{not_covered, wrong-length, filled}
use Rattle.calls.proofs.starting.start_side.Goals as goal

pub returns-then-not-is_covered : goal.returns-then-not-is_covered
returns-then-not-is_covered c len h3 h4 =
    let a = c.args in
    not_covered a.mode a.memory3.now a.memory4.now a.delay.now _ c.fresh_state.ensures
    (sym c.is_covered.ensures ∙ c.if-not-is_covered.true) len

pub returns-then-place-lt3 : goal.returns-then-place-lt3
returns-then-place-lt3 c len h3 h4 =
    let a = c.args in
    wrong-length a.mode a.memory3.now a.memory4.now a.delay.now _ _ _ _ (sym c.is_covered.ensures ∙ c.if-not-is_covered.false)
    c.first_wrong-place.ensures len h3 h4 (c.delay_len.ensures ∙ ap delay_len c.main_of.ensures) _ c.fresh_state-then-place-lt3.ensures c.if-place-lt3.true

pub returns : goal.returns
returns c len h3 h4 =
    let a = c.args in
    filled a.mode a.memory3.now a.memory4.now a.delay.now _ _ _ _ (sym c.is_covered.ensures ∙ c.if-not-is_covered.false)
    c.first_wrong-place.ensures len h3 h4 (c.delay_len.ensures ∙ ap delay_len c.main_of.ensures) _ _ _ _ c.fresh_state-2.ensures
    c.fill.ensures c.fill-2.ensures c.fill-3.ensures c.if-place-lt3.false
