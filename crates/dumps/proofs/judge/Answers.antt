-- `judge` meets its contract: the header decides, or the L1 frames do. Assumes nothing.
use mathlib.Core.Path.{◌≡◌, ap, sym, ◌∙◌}
use Prim.Native.Nat.{◌≤◌}
use native.Mathlib.Omega.{arith}
use lib.ListN.{length}
use lib.Seq.{length-take-le}
use Rattle.runs.specs.Answers.{number_of}
use Rattle.layout.specs.Heads.{head_answer}
use Rattle.layout.proofs.Heads.{head_of}
use Rattle.dumps.proofs.Fresh.{memory-clear, room-delay, room-memory3, room-memory4}
use Rattle.dumps.proofs.Taken.{refused-head, taken-by}
use Rattle.causes.proofs.Success.{refused}
use Rattle.dumps.proofs.judge.Goals as goal
use Rattle.dumps.proofs.judge.Goals.{Else-not-is_success}

-- where the header was taken, it has eight bytes
clear : (c : Else-not-is_success) → number_of (head_answer c.args.dump.now) ≡ 0
clear c = ap number_of (sym c.head_answer-head.ensures) ∙ c.is_success.ensures.0 c.if-not-is_success.false

long : (c : Else-not-is_success) → 8 ≤ length c.args.dump.now
long c = (head_of _ (clear c)).long

pub returns-then-not-is_success : goal.returns-then-not-is_success
returns-then-not-is_success c =
    c.judged_as.ensures ∙ refused-head c.args.dump.now _ c.head_answer-head.ensures (refused c.is_success.ensures c.if-not-is_success.true)

pub bounds-dump-5 : goal.bounds-dump-5
bounds-dump-5 c =
    let l : 8 ≤ length c.args.dump.now = long (goal.at.bounds-dump-5 c).Else-not-is_success in
    omega arith

pub word_at-count-requires : goal.word_at-count-requires
word_at-count-requires c =
    let l : 8 ≤ length c.args.dump.now = long (goal.at.word_at-count-requires c).Else-not-is_success in
    omega arith

pub slice_bounds-judge_frames-count : goal.slice_bounds-judge_frames-count
slice_bounds-judge_frames-count c =
    let l : 8 ≤ length c.args.dump.now = long (goal.at.slice_bounds-judge_frames-count c).Else-not-is_success in
    omega arith

pub slice_bounds-judge_frames-start : goal.slice_bounds-judge_frames-start
slice_bounds-judge_frames-start c =
    let l : 8 ≤ length c.args.dump.now = long (goal.at.slice_bounds-judge_frames-start c).Else-not-is_success in
    omega arith

pub slice_bounds-memory3-end : goal.slice_bounds-memory3-end
slice_bounds-memory3-end c = room-memory3 _ _ c.reader_lengths-want.ensures

pub slice_bounds-judge_frames-end-2 : goal.slice_bounds-judge_frames-end-2
slice_bounds-judge_frames-end-2 c = sym (length-take-le _ _ (room-memory3 _ _ c.reader_lengths-want.ensures))

pub slice_bounds-memory4-end : goal.slice_bounds-memory4-end
slice_bounds-memory4-end c = room-memory4 _ _ c.reader_lengths-want.ensures

pub slice_bounds-judge_frames-end-3 : goal.slice_bounds-judge_frames-end-3
slice_bounds-judge_frames-end-3 c = sym (length-take-le _ _ (room-memory4 _ _ c.reader_lengths-want.ensures))

pub slice_bounds-delay-end : goal.slice_bounds-delay-end
slice_bounds-delay-end c = room-delay _ _ c.reader_lengths-want.ensures

pub slice_bounds-judge_frames-end-4 : goal.slice_bounds-judge_frames-end-4
slice_bounds-judge_frames-end-4 c = sym (length-take-le _ _ (room-delay _ _ c.reader_lengths-want.ensures))

pub judge_frames-requires : goal.judge_frames-requires
judge_frames-requires c = memory-clear _ _ c.reader_lengths-want.ensures

pub returns : goal.returns
returns c =
    c.judge_frames.ensures ∙ taken-by c.args.dump.now c.word_at-count.result (clear (goal.at.returns c).Else-not-is_success) c.word_at-count.ensures
