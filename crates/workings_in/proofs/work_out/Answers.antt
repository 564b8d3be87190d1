-- `work_out` meets its contract: the case that the tests chose. Assumes nothing.
use mathlib.Core.Path.{◌∙◌}
use Prim.Native.Nat.{◌≤◌, ◌<◌}
use native.Mathlib.Omega.{arith}
use Rattle.workings.proofs.Cases.{start_small}
use Rattle.workings.proofs.Sizes.{frame-inside}
use Rattle.workings_in.proofs.Sizes.{whole_in}
use Rattle.workings_in.proofs.Cases.{length-refused, frame_refused, bit-refused, inside}
use Rattle.workings_in.proofs.work_out.Goals as goal

pub overflow_mul-count : goal.overflow_mul-count
overflow_mul-count c =
    let w = whole_in c.args.main c.args.channel _ c.requires.0 c.requires.1 in
    let few : c.frames_in-count.result ≤ 16 = omega (arith, c.frames_in-count.ensures.1) in
    omega (arith, start_small _ _ few w.few)

pub returns-then-frames-count : goal.returns-then-frames-count
returns-then-frames-count c =
    c.refused.ensures ∙ length-refused _ _ _ _ _ _ c.requires.0 _ c.frames_in-count.ensures.0 c.if-frames-count.true

pub returns-then-frame-count : goal.returns-then-frame-count
returns-then-frame-count c =
    c.refused-then-frame-count.ensures
    ∙ frame_refused _ _ _ _ _ _ c.requires.0 _ c.frames_in-count.ensures.0 c.if-frames-count.false c.if-frame-count.true

pub coded_length-coded-requires : goal.coded_length-coded-requires
coded_length-coded-requires c =
    (whole_in c.args.main c.args.channel _ c.requires.0 c.requires.1).few

pub returns-then-bit-coded : goal.returns-then-bit-coded
returns-then-bit-coded c =
    c.refused-then-bit-coded.ensures
    ∙ bit-refused _ _ _ _ _ _ c.requires.0 _ c.frames_in-count.ensures.0 c.if-frames-count.false (omega arith) _
    c.rate_in-rate.ensures (omega (arith, c.coded_length-coded.ensures))

pub write-writing-requires : goal.write-writing-requires
write-writing-requires c =
    let below : c.args.frame < c.frames_in-count.result = omega arith in
    let n-is = c.requires.0 in (
      rw c.frames_in-count.ensures.0 at below,
      rw (c.coded_length-coded.ensures, n-is, c.rate_in-rate.ensures),
      omega arith,
    )

pub show-requires : goal.show-requires
show-requires c =
    let w = whole_in c.args.main c.args.channel _ c.requires.0 c.requires.1 in (
      w.enough,
      w.few,
      omega (arith, w.bytes),
      omega (arith, c.frames_in-count.ensures.1),
      frame-inside _ _ _ _ w.bytes c.if-frames-count.false (omega arith),
      omega (arith, c.coded_length-coded.ensures),
    )

pub returns : goal.returns
returns c =
    c.show.ensures
    ∙ inside _ _ _ _ _ _ c.requires.0 _ c.frames_in-count.ensures.0 c.if-frames-count.false (omega arith) _
    c.rate_in-rate.ensures (omega (arith, c.coded_length-coded.ensures)) _ c.write-writing.ensures
