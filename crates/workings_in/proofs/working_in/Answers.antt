-- `working_in` meets its contract: the case that the tests chose. Assumes nothing.
use mathlib.Core.Path.{◌≡◌, sym, ap, ◌∙◌}
use mathlib.Core.Bool.{true}
use Rattle.runs.specs.declared.State.{State}
use Rattle.runs.specs.Starting.{valid}
use Rattle.workings.specs.Shown.{worked}
use Rattle.workings_in.proofs.Cases.{state-refused, as-older, own}
use Rattle.workings_in.proofs.working_in.Goals as goal
use Rattle.workings_in.proofs.working_in.Goals.{After-main_of-main}

-- what the test of the state says
admitted : (m : After-main_of-main) → valid m.args.state ≡ true
admitted m = sym m.is_valid.ensures ∙ m.if-not-is_valid.false

pub returns-then-not-is_valid : goal.returns-then-not-is_valid
returns-then-not-is_valid c = c.refused.ensures ∙ state-refused _ _ _ _ _ (sym c.is_valid.ensures ∙ c.if-not-is_valid.true)

pub returns-then-n-eq0 : goal.returns-then-n-eq0
returns-then-n-eq0 c =
    let a = c.args in
    c.working.ensures
    ∙ ap (λ (s : State). worked s a.channel a.frames.now a.frame a.bit) c.as_older.ensures
    ∙ as-older _ _ _ _ _ (admitted (goal.at.returns-then-n-eq0 c).After-main_of-main) _ c.main_of-main.ensures _ c.bits_in-n.ensures.0 c.if-n-eq0.true

pub returns : goal.returns
returns c =
    c.work_out.ensures ∙ own _ _ _ _ _ (admitted (goal.at.returns c).After-main_of-main) _ c.main_of-main.ensures _ c.bits_in-n.ensures.0 c.if-n-eq0.false
