use mathlib.Core.Path.{refl, sym, ap, ◌∙◌}
use Prim.Native.Nat.{ℕ, ◌*◌}
use native.Mathlib.Omega.{arith}
use Rattle.sheetruns.proofs.Loop.{bytes-few, frame-within, going-begins, going-ends, going_on, going-stops, room_for, room-last}
use Rattle.sheetruns.proofs.Loop.{put_first}
use Rattle.causes.proofs.Success.{refused}
use Rattle.sheetruns.proofs.frames.put_frames.Goals as goal

pub frame_size-n-requires : goal.frame_size-n-requires
frame_size-n-requires c =
    (c.requires.1, c.requires.2)

pub loop-t-init : goal.loop-t-init
loop-t-init c = (
  c.frame_size-n.ensures.0,
  refl,
  refl,
  refl,
  refl,
  going-begins _ c.args.mode c.args.count c.args.n3 c.args.n4 c.args.list.now c.args.bytes.now c.args.at _ c.requires.0 c.requires.4 c.start_sender-begun.result _ _ c.start_sender-begun.ensures c.requires.7,
)

pub overflow_add-to : goal.overflow_add-to
overflow_add-to c =
    omega (arith, frame-within c.loop-t.invariant.5 c.loop-t-test.true, c.loop-t.invariant.0, c.ranges, c.well_formed)

pub slice_bounds-take_turn-end : goal.slice_bounds-take_turn-end
slice_bounds-take_turn-end c = omega (arith, frame-within c.loop-t.invariant.5 c.loop-t-test.true, c.loop-t.invariant.0)

pub take_turn-turned-requires : goal.take_turn-turned-requires
take_turn-turned-requires c = (
  c.loop-t.invariant.5.mode-is,
  c.requires.0,
  record {
    room = omega (arith, room_for c.loop-t.invariant.5 c.loop-t-test.true, c.requires.5, c.requires.6, c.loop-t.invariant.4);
    list-short = omega (arith, c.requires.5);
    all_short = bytes-few _ _ _ c.requires.3 c.frame_size-n.ensures.1 (c.requires.4 ∙ ap (λ (k : ℕ). c.args.count * k) (sym c.frame_size-n.ensures.0));
    few = c.requires.3;
    p3 = c.requires.1;
    p4 = c.requires.2;
  },
)

pub put_no_frame-requires : goal.put_no_frame-requires
put_no_frame-requires c =
    omega (arith, c.requires.6, c.loop-t.invariant.4, c.take_turn-turned.ensures.size)

pub shape_of-memory3-then-not-is_success : goal.shape_of-memory3-then-not-is_success
shape_of-memory3-then-not-is_success c =
    c.memory3-in-loop-t-1.given ∙ c.loop-t.invariant.1 ∙ c.memory3-1.given

pub shape_of-memory4-then-not-is_success : goal.shape_of-memory4-then-not-is_success
shape_of-memory4-then-not-is_success c =
    c.memory4-in-loop-t-1.given ∙ c.loop-t.invariant.2 ∙ c.memory4-1.given

pub shape_of-delay-then-not-is_success : goal.shape_of-delay-then-not-is_success
shape_of-delay-then-not-is_success c =
    c.delay-in-loop-t-1.given ∙ c.loop-t.invariant.3 ∙ c.delay-1.given

pub shape_of-out-then-not-is_success : goal.shape_of-out-then-not-is_success
shape_of-out-then-not-is_success c = c.out-then-not-is_success-1.given ∙ c.out-1.given ∙ c.loop-t.invariant.4

pub returns-then-not-is_success : goal.returns-then-not-is_success
returns-then-not-is_success c =
    put_first _ _ (omega (arith, c.requires.6, c.loop-t.invariant.4, c.take_turn-turned.ensures.size))
    (going-stops c.loop-t.invariant.5 c.loop-t-test.true _ _ c.loop-t.invariant.0 refl _ refl _ c.take_turn-turned.result _ c.take_turn-turned.ensures (refused c.is_success.ensures c.if-not-is_success.true)) c.put_no_frame.ensures

pub loop-t-preserved : goal.loop-t-preserved
loop-t-preserved c = (
  c.loop-t.invariant.0,
  c.memory3-in-loop-t-1.given ∙ c.loop-t.invariant.1,
  c.memory4-in-loop-t-1.given ∙ c.loop-t.invariant.2,
  c.delay-in-loop-t-1.given ∙ c.loop-t.invariant.3,
  c.take_turn-turned.ensures.size ∙ c.loop-t.invariant.4,
  going_on c.loop-t.invariant.5 c.loop-t-test.true _ _ c.loop-t.invariant.0 refl _ refl _ c.take_turn-turned.result _ c.take_turn-turned.ensures (c.is_success.ensures.0 c.if-not-is_success.false),
)

pub put_last-requires : goal.put_last-requires
put_last-requires c = (
  c.requires.3,
  omega (arith, room-last c.loop-t.invariant.5 c.loop-t-test.false, c.requires.5, c.requires.6, c.loop-t.invariant.4),
  c.requires.5,
  c.requires.1,
  c.requires.2,
  bytes-few _ _ _ c.requires.3 c.frame_size-n.ensures.1 (c.requires.4 ∙ ap (λ (k : ℕ). c.args.count * k) (sym c.frame_size-n.ensures.0)),
)

pub shape_of-memory3 : goal.shape_of-memory3
shape_of-memory3 c = c.loop-t.invariant.1 ∙ c.memory3-1.given

pub shape_of-memory4 : goal.shape_of-memory4
shape_of-memory4 c = c.loop-t.invariant.2 ∙ c.memory4-1.given

pub shape_of-delay : goal.shape_of-delay
shape_of-delay c = c.loop-t.invariant.3 ∙ c.delay-1.given

pub shape_of-out : goal.shape_of-out
shape_of-out c = c.out-2-1.given ∙ c.loop-t.invariant.4

pub returns : goal.returns
returns c = (
  omega (arith, c.put_last.ensures.within, c.put_last.ensures.size, room-last c.loop-t.invariant.5 c.loop-t-test.false, c.requires.5, c.requires.6, c.loop-t.invariant.4),
  c.put_last.ensures.holds ∙ going-ends c.loop-t.invariant.5 c.loop-t-test.false,
)
