-- `judge_px` meets its contract: 7, and by the age 8. Assumes nothing.
use mathlib.Core.Path.{◌∙◌}
use native.Mathlib.Omega.{arith}
use Rattle.calls.specs.Called.{memory_behind, signal_behind}
use Rattle.judging.proofs.Staged.{at_fill, old, young}
use Rattle.causes.proofs.Success.{refused}
use Rattle.judging.proofs.judge_px.Goals as goal

pub returns-then-not-is_success : goal.returns-then-not-is_success
returns-then-not-is_success c =
    let a = c.args in record {
      value = at_fill a.state (memory_behind a.memory.now) (signal_behind a.signal.now).matrices _ c.judge_fill-answer.ensures (refused c.is_success.ensures c.if-not-is_success.true);
      recovered = λ z h. absurd (refused c.is_success.ensures c.if-not-is_success.true z);
      same = search;
      others = search;
    }

pub returns-then-state-lt2 : goal.returns-then-state-lt2
returns-then-state-lt2 c =
    let a = c.args in
    let zero = c.is_success.ensures.0 c.if-not-is_success.false in record {
      value = young a.state (memory_behind a.memory.now) (signal_behind a.signal.now).matrices _ c.judge_fill-answer.ensures zero c.if-state-lt2.true;
      recovered = λ z h. absurd (omega (arith, h, c.if-state-lt2.true));
      same = search;
      others = search;
    }

pub returns : goal.returns
returns c =
    let a = c.args in
    let zero = c.is_success.ensures.0 c.if-not-is_success.false in
    record {
      value = c.judge_frames.ensures.value ∙ old a.state (memory_behind a.memory.now) (signal_behind a.signal.now).matrices _ c.judge_fill-answer.ensures zero c.if-state-lt2.false;
      recovered = λ z h. c.judge_frames.ensures.recovered z;
      same = c.judge_frames.ensures.same;
      others = c.judge_frames.ensures.others;
    }
