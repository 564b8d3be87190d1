-- `receive` meets its contract: a refusal leaves everything, and a success leaves what the parts of the work ensure. Assumes nothing.
use mathlib.Core.Path.{◌∙◌}
use Rattle.runs.specs.Lent.{Lent, Memory}
use Rattle.calls.specs.Called.{frames_behind_mut, lent_to_read, memory_behind_mut}
use Rattle.receiving.proofs.Leaves.{handed_out, kept}
use Rattle.causes.proofs.Success.{refused}
use Rattle.receiving.proofs.receive.Goals as goal
use Rattle.receiving.proofs.receive.Goals.{Start}

-- what was lent, at the start
abbrev lent_at : Start → Lent
lent_at s = lent_to_read 0 s.args.frames.now s.args.signal.now

abbrev memory_at : Start → Memory
memory_at s = memory_behind_mut s.args.memory.now

pub returns-then-not-is_success : goal.returns-then-not-is_success
returns-then-not-is_success c =
    record {
      received = kept c.args.state (memory_at (goal.at.returns-then-not-is_success c).Start) (lent_at (goal.at.returns-then-not-is_success c).Start) _ c.judge-answer.ensures.value (refused c.is_success.ensures c.if-not-is_success.true);
      same = search;
    }

pub returns : goal.returns
returns c =
    let zero = c.is_success.ensures.0 c.if-not-is_success.false in
    let h = c.hand_out.ensures in
    record {
      received = handed_out c.args.state (memory_at (goal.at.returns c).Start) (lent_at (goal.at.returns c).Start) _ c.judge-answer.ensures.value zero _ _ _
          (frames_behind_mut 0 c.judge-answer.new.own) (frames_behind_mut 0 c.hand_out.new.frames) (memory_behind_mut c.keep.new.memory) c.next_of-next.ensures c.number_in-reserved.ensures.0 c.main_of.ensures (c.judge-answer.ensures.brought zero)
          (h.p1_after ∙ c.return_p1.ensures) h.pids_after (c.judge-answer.ensures.recovered zero) h.p3_after c.keep.ensures.kept;
      same = (record { p1 = record { name = h.same.p1.name; len = h.same.p1.len ∙ c.return_p1.auto.p1 }; pids = h.same.pids; p2 = h.same.p2; p3 = h.same.p3; p4 = h.same.p4 }, c.keep.ensures.same, c.judge-answer.ensures.same);
    }
