-- `judge_signal` meets its contract: one stage after the other. Assumes nothing.
use mathlib.Core.Path.{◌≡◌, ◌∙◌}
use native.Mathlib.Omega.{arith}
use Rattle.runs.specs.Answers.{number_of}
use Rattle.calls.specs.Called.{memory_behind, signal_behind}
use Rattle.judging.proofs.Staged.{control-refused, control-right, at-control, at-pm, at-px}
use Rattle.causes.proofs.Success.{refused}
use Rattle.judging.proofs.judge_signal.Goals as goal

pub returns-in-Some : goal.returns-in-Some
returns-in-Some c =
    let a = c.args in
    record {
      value = at-control a.state (memory_behind a.memory.now) (signal_behind a.signal.now) _ (control-refused _ _ _ c.in-Some.ensures.lowest c.in-Some.ensures.inside) (λ z. omega arith);
      brought = λ z. absurd (omega arith);
      recovered = λ z. absurd (omega arith);
      same = search;
    }

pub returns-then-not-is_success : goal.returns-then-not-is_success
returns-then-not-is_success c =
    let a = c.args in
    let zero-not : number_of c.judge_pm-answer.result ≡ 0 → ⊥ = refused c.is_success.ensures c.if-not-is_success.true in
    record {
      value = at-pm a.state (memory_behind a.memory.now) (signal_behind a.signal.now) _ (control-right _ _ _ c.in_default.ensures.lowest (omega arith)) c.judge_pm-answer.ensures.value zero-not;
      brought = λ z. absurd (zero-not z);
      recovered = λ z. absurd (zero-not z);
      same = c.judge_pm-answer.ensures.same;
    }

pub returns : goal.returns
returns c =
    let a = c.args in
    let zero = c.is_success.ensures.0 c.if-not-is_success.false in
    record {
      value = at-px a.state (memory_behind a.memory.now) (signal_behind a.signal.now) _ (control-right _ _ _ c.in_default.ensures.lowest (omega arith)) c.judge_pm-answer.ensures.value zero _ c.judge_px.ensures.value;
      brought = λ z.
          let o = c.judge_px.ensures.others in
          let b = c.judge_pm-answer.ensures.brought zero in
          record { p1-is = o.0 ∙ b.p1-is; pids-is = o.1 ∙ b.pids-is; p2-is = o.2 ∙ b.p2-is };
      recovered = c.judge_px.ensures.recovered;
      same = search;
    }
