-- `work_out` meets its contract: the case that the tests chose. Assumes nothing.
use mathlib.Core.Path.{◌≡◌, sym, ap, ◌∙◌}
use mathlib.Core.Bool.{true}
use Prim.Native.Nat.{◌%◌, ◌<◌}
use native.Mathlib.Omega.{arith}
use Rattle.workings.specs.Shown.{older, bits_of, shown}
use Rattle.runs.specs.Starting.{valid}
use Rattle.calls.proofs.Admitted.{valid-says}
use Rattle.workings.proofs.Sizes.{whole, frame-inside}
use Rattle.workings.proofs.Cases.{state-refused, mode-refused, channel-refused, length-refused, frame_refused, bit-refused, inside, start_small}
use Rattle.workings.proofs.work_out.Goals as goal
use Rattle.workings.proofs.work_out.Goals.{After-bits_of-n, After-is_older}

-- what the tests of the state and of the mode say
admitted : (o : After-is_older) → valid o.args.state ≡ true
admitted o = sym o.is_valid.ensures ∙ o.if-not-is_valid.false

of-older : (n : After-bits_of-n) → older n.args.state.mode ≡ true
of-older n = sym n.is_older.ensures ∙ n.if-not-is_older.false

pub returns-then-not-is_valid : goal.returns-then-not-is_valid
returns-then-not-is_valid c = c.refused.ensures ∙ state-refused _ _ _ _ _ (sym c.is_valid.ensures ∙ c.if-not-is_valid.true)

pub returns-then-not-is_older : goal.returns-then-not-is_older
returns-then-not-is_older c =
    c.refused-then-not-is_older.ensures ∙ mode-refused _ _ _ _ _ (admitted (goal.at.returns-then-not-is_older c).After-is_older) (sym c.is_older.ensures ∙ c.if-not-is_older.true)

pub returns-then-n-eq0 : goal.returns-then-n-eq0
returns-then-n-eq0 c =
    c.refused-then-n-eq0.ensures ∙ channel-refused _ _ _ _ _ (admitted (goal.at.returns-then-n-eq0 c).After-is_older) (of-older (goal.at.returns-then-n-eq0 c).After-bits_of-n) _ c.bits_of-n.ensures.0 c.if-n-eq0.true

pub overflow_mul-count : goal.overflow_mul-count
overflow_mul-count c = omega (arith, start_small _ _ c.frames_of-count.ensures.1 c.bits_of-n.ensures.1)

pub returns-then-frames-count : goal.returns-then-frames-count
returns-then-frames-count c =
    c.refused-then-frames-count.ensures
    ∙ length-refused _ _ _ _ _ (admitted (goal.at.returns-then-frames-count c).After-is_older) (of-older (goal.at.returns-then-frames-count c).After-bits_of-n) _ c.bits_of-n.ensures.0 c.if-n-eq0.false _ c.frames_of-count.ensures.0 c.if-frames-count.true

pub returns-then-frame-count : goal.returns-then-frame-count
returns-then-frame-count c =
    c.refused-then-frame-count.ensures
    ∙ frame_refused _ _ _ _ _ (admitted (goal.at.returns-then-frame-count c).After-is_older) (of-older (goal.at.returns-then-frame-count c).After-bits_of-n) _ c.bits_of-n.ensures.0 c.if-n-eq0.false _ c.frames_of-count.ensures.0
    c.if-frames-count.false c.if-frame-count.true

pub returns-then-bit-coded_length : goal.returns-then-bit-coded_length
returns-then-bit-coded_length c =
    c.refused-then-bit-coded_length.ensures
    ∙ bit-refused _ _ _ _ _ (admitted (goal.at.returns-then-bit-coded_length c).After-is_older) (of-older (goal.at.returns-then-bit-coded_length c).After-bits_of-n) _ c.bits_of-n.ensures.0 c.if-n-eq0.false _ c.frames_of-count.ensures.0
    c.if-frames-count.false (omega arith) _ c.rate_of-rate.ensures (omega (arith, c.coded_length.ensures))

pub write-requires : goal.write-requires
write-requires c =
    let below : c.args.frame < c.frames_of-count.result = omega arith in
    let inside : c.args.bit < c.coded_length.result = omega arith in (
      (valid-says _ (admitted (goal.at.write-requires c).After-is_older)).1,
      rw c.frames_of-count.ensures.0 at below,
      rw (c.coded_length.ensures, c.bits_of-n.ensures.0, c.rate_of-rate.ensures) at inside,
    )

pub show-requires : goal.show-requires
show-requires c =
    let w = whole _ _ (λ z. c.if-n-eq0.false (c.bits_of-n.ensures.0 ∙ z)) in
    let n-is : c.bits_of-n.result ≡ bits_of _ _ = c.bits_of-n.ensures.0 in
    let e : c.bits_of-n.result % 8 ≡ 0 = rw n-is w.bytes in (
      rw n-is w.enough,
      c.bits_of-n.ensures.1,
      omega arith,
      omega arith,
      frame-inside _ _ _ _ e c.if-frames-count.false (omega arith),
      omega (arith, c.coded_length.ensures),
    )

pub returns : goal.returns
returns c =
    c.show.ensures
    ∙ ap (shown _ _ _ _) c.write.ensures
    ∙ inside _ _ _ _ _ (admitted (goal.at.returns c).After-is_older) (of-older (goal.at.returns c).After-bits_of-n) _ c.bits_of-n.ensures.0 c.if-n-eq0.false _ c.frames_of-count.ensures.0
    c.if-frames-count.false (omega arith) _ c.rate_of-rate.ensures (omega (arith, c.coded_length.ensures))
