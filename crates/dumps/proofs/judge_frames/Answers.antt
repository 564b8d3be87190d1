use mathlib.Core.Path.{refl, ◌∙◌}
use native.Mathlib.Omega.{arith}
use borrow.Author.Rules.{rules}
use Rattle.dumps.proofs.Steps.{begun, done, left_over, next_one, room, turned_down}
use Rattle.causes.proofs.Success.{refused}
use Rattle.dumps.proofs.judge_frames.Goals as goal

pub loop-t-init : goal.loop-t-init
loop-t-init c = (
  omega arith,
  omega arith,
  c.frame_bytes-n.ensures,
  refl,
  refl,
  refl,
  begun c.args.mode c.args.count c.args.frames.now _ _ _ c.start_reader-begun.ensures c.requires,
)

pub returns-then-not-is_success : goal.returns-then-not-is_success
returns-then-not-is_success c =
    let a = c.args in
    turned_down a.mode a.count a.frames.now _ _ _ _ _ c.loop-t.invariant.2 c.loop-t.invariant.6 c.loop-t-test.true c.judge_frame-judged.result _ c.judge_frame-judged.ensures (refused c.is_success.ensures c.if-not-is_success.true)

pub overflow_add-at : goal.overflow_add-at
overflow_add-at c =
    let a = c.args in
    let le = room a.mode a.count a.frames.now _ _ _ _ _ c.loop-t.invariant.2 c.loop-t.invariant.6 c.loop-t-test.true c.judge_frame-judged.result _ c.judge_frame-judged.ensures (c.is_success.ensures.0 c.if-not-is_success.false) in
    omega (arith, le, c.loop-t.invariant.0, c.ranges, c.well_formed)

pub loop-t-preserved : goal.loop-t-preserved
loop-t-preserved c =
    let a = c.args in (
      let le = room a.mode a.count a.frames.now _ _ _ _ _ c.loop-t.invariant.2 c.loop-t.invariant.6 c.loop-t-test.true c.judge_frame-judged.result _ c.judge_frame-judged.ensures (c.is_success.ensures.0 c.if-not-is_success.false) in omega (arith, le, c.loop-t.invariant.0),
      omega arith,
      c.loop-t.invariant.2,
      search rules,
      search rules,
      search rules,
      next_one a.mode a.count a.frames.now _ _ _ _ _ c.loop-t.invariant.2 c.loop-t.invariant.6 c.loop-t-test.true c.judge_frame-judged.result _ c.judge_frame-judged.ensures (c.is_success.ensures.0 c.if-not-is_success.false),
    )

pub returns-then-at-frames : goal.returns-then-at-frames
returns-then-at-frames c =
    let a = c.args in
    c.judged_as.ensures
    ∙ left_over a.mode a.count a.frames.now _ _ _ _ _ c.loop-t.invariant.2 c.loop-t.invariant.6 (omega (arith, c.loop-t.invariant, c.loop-t-test.false)) c.if-at-frames.true

pub returns : goal.returns
returns c =
    let a = c.args in
    c.judged_as-2.ensures
    ∙ done a.mode a.count a.frames.now _ _ _ _ _ c.loop-t.invariant.2 c.loop-t.invariant.6 (omega (arith, c.loop-t.invariant, c.loop-t-test.false)) c.if-at-frames.false
