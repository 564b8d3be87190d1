-- `judge_frames` meets its contract: the case that the tests chose. Assumes nothing.
use native.Mathlib.Omega.{arith}
use Rattle.calls.specs.Called.{memory_behind, signal_behind}
use Rattle.judging.specs.Stages.{after}
use Rattle.judging.proofs.Staged.{frame3-refused, frame4-refused, frames-right, recovered}
use Rattle.judging.proofs.judge_frames.Goals as goal

pub returns-then-frame-lt8 : goal.returns-then-frame-lt8
returns-then-frame-lt8 c =
    let a = c.args in
    let m = after a.state (memory_behind a.memory.now) (signal_behind a.signal.now).matrices in record {
      value = frame3-refused a.state m c.kind_of-kind3.ensures c.recover_px-frame.ensures.0 c.if-frame-lt8.true;
      recovered = λ z. absurd (omega arith);
      same = search;
      others = search;
    }

pub returns-then-beside-lt8 : goal.returns-then-beside-lt8
returns-then-beside-lt8 c =
    let a = c.args in
    let m = after a.state (memory_behind a.memory.now) (signal_behind a.signal.now).matrices in record {
      value = frame4-refused a.state m c.kind_of-kind3.ensures c.recover_px-frame.ensures.0 c.if-frame-lt8.false c.recover_p4-beside.ensures.0 c.if-beside-lt8.true;
      recovered = λ z. absurd (omega arith);
      same = search;
      others = search;
    }

pub returns : goal.returns
returns c =
    let a = c.args in
    let m = after a.state (memory_behind a.memory.now) (signal_behind a.signal.now).matrices in record {
      value = frames-right a.state m c.kind_of-kind3.ensures c.recover_px-frame.ensures.0 c.if-frame-lt8.false c.recover_p4-beside.ensures.0 c.if-beside-lt8.false;
      recovered = λ z. recovered a.state m _ c.kind_of-kind3.ensures c.recover_px-frame.ensures.1 c.recover_p4-beside.ensures.1;
      same = search;
      others = search;
    }
