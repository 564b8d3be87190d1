-- `send_input` meets its contract: what the input's end has cut off is refused, and the rest is a sending. Assumes nothing.
use mathlib.Core.Path.{◌∙◌}
use Rattle.runs.specs.Lent.{Lent, Memory}
use Rattle.calls.specs.Called.{memory, signal}
use Rattle.layout.specs.Inputs.{frames_in, handed}
use Rattle.run_input.proofs.Whole.{cut_off, whole}
use Rattle.causes.proofs.Success.{refused}
use Rattle.run_input.proofs.inputs.send_input.Goals as goal
use Rattle.run_input.proofs.inputs.send_input.Goals.{Start}

-- what was lent, at the start
abbrev lent_at : Start → Lent
lent_at s =
    let a = s.args in
    handed (frames_in a.state.mode a.n3 a.n4 a.input.now) (signal a.pm.now a.px1.now a.px2.now a.control.now)

abbrev memory_at : Start → Memory
memory_at s = memory s.args.memory3.now s.args.memory4.now s.args.delay.now

pub returns-then-not-is_success : goal.returns-then-not-is_success
returns-then-not-is_success c =
    cut_off c.args.n3 c.args.n4 c.args.state (memory_at (goal.at.returns-then-not-is_success c).Start) (lent_at (goal.at.returns-then-not-is_success c).Start) _ c.whole_answer-answer.ensures
    (refused c.is_success.ensures c.if-not-is_success.true)

pub returns : goal.returns
returns c =
    c.send_frame.ensures
    ∙ whole c.args.n3 c.args.n4 c.args.state (memory_at (goal.at.returns c).Start) (lent_at (goal.at.returns c).Start) _ c.whole_answer-answer.ensures
    (c.is_success.ensures.0 c.if-not-is_success.false)
