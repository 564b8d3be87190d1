use mathlib.Core.Path.{sym, ◌∙◌}
use native.Mathlib.Nat.{zero-mod}
use native.Mathlib.Omega.{arith}
use Rattle.bits.proofs.Stores.{stored-none, stored-all}
use Rattle.scrambling.proofs.Frames.{part_length, next_start, frame-more}
use Rattle.scrambling.proofs.scramble_each.Goals as goal

pub loop-a-init : goal.loop-a-init
loop-a-init c = (stored-none _ _, λ h. zero-mod _)

pub scramble_frame-requires : goal.scramble_frame-requires
scramble_frame-requires c =
    let loop = c.loop-a in
    let frames = c.args.frames.now in
    let e = c.frame_end-e.result in (
      c.first_words-first.ensures,
      part_length frames loop.a e (omega arith) (omega arith) ∙ sym (part_length loop.out loop.a e (omega arith) (omega arith)),
    )

pub loop-a-preserved : goal.loop-a-preserved
loop-a-preserved c =
    let args = c.args in
    let loop = c.loop-a in
    let start = loop.invariant.1 c.loop-a-test.true in
    let e = c.frame_end-e.result in
    let end = c.frame_end-e.ensures in (
      record {
        inside = omega arith;
        long = c.out-1.given.1 ∙ loop.invariant.0.long;
        front =
            frame-more args.n args.frames.now loop.a e (omega arith) start (omega arith) end.2 loop.out _ end.1
            loop.invariant.0.front c.scramble_frame.ensures;
      },
      λ h. next_start args.n loop.a e (omega arith) start (end.3 (omega arith)),
    )

pub returns : goal.returns
returns c = stored-all c.loop-a.invariant.0 c.loop-a-test.false
