-- `judge_pm` meets its contract: the case that the tests chose. Assumes nothing.
use mathlib.Core.Path.{◌∙◌}
use native.Mathlib.Omega.{arith}
use Rattle.calls.specs.Called.{memory_behind, signal_behind}
use Rattle.judging.proofs.Staged.{main-refused, pids-refused, pm-right}
use Rattle.judging.proofs.judge_pm.Goals as goal

pub returns-then-place-p1_frames : goal.returns-then-place-p1_frames
returns-then-place-p1_frames c =
    let a = c.args in
    record {
      value = main-refused a.state (memory_behind a.memory.now) (signal_behind a.signal.now).matrices _ c.main_place-place.ensures.value c.main_of.ensures c.p1_frames.ensures.0 c.if-place-p1_frames.true;
      brought = λ z. absurd (omega arith);
      same = search;
    }

pub returns-then-frame-lt16 : goal.returns-then-frame-lt16
returns-then-frame-lt16 c =
    let a = c.args in
    let s = c.main_place-place.ensures.same in
    record {
      value = pids-refused a.state (memory_behind a.memory.now) (signal_behind a.signal.now).matrices _ c.main_place-place.ensures.value c.main_of.ensures c.p1_frames.ensures.0 c.if-place-p1_frames.false _ c.recover_pids-frame.ensures.0 c.if-frame-lt16.true;
      brought = λ z. absurd (omega arith);
      same = record { p1 = s.p1; pids = record { name = s.pids.name; len = c.recover_pids-frame.auto.pids ∙ s.pids.len }; p2 = s.p2; p3 = s.p3; p4 = s.p4 };
    }

pub returns : goal.returns
returns c =
    let a = c.args in
    let s = c.main_place-place.ensures.same in
    record {
      value = pm-right a.state (memory_behind a.memory.now) (signal_behind a.signal.now).matrices _ c.main_place-place.ensures.value c.main_of.ensures c.p1_frames.ensures.0 c.if-place-p1_frames.false _ c.recover_pids-frame.ensures.0 c.if-frame-lt16.false;
      brought = λ z. record { p1-is = c.main_place-place.ensures.p1_after; pids-is = c.recover_pids-frame.ensures.1; p2-is = c.main_place-place.ensures.p2_after };
      same = record { p1 = s.p1; pids = record { name = s.pids.name; len = c.recover_pids-frame.auto.pids ∙ s.pids.len }; p2 = s.p2; p3 = s.p3; p4 = s.p4 };
    }
