-- `read_lent` meets its contract: the L1 frame was read, or it was refused. Assumes nothing.
use mathlib.Core.Path.{◌∙◌}
use native.Mathlib.Omega.{arith}
use Rattle.messages.specs.Lines.{in_words}
use Rattle.steps.proofs.Taken.{was-done, was-refused}
use Rattle.reader_step.specs.Returned.{frame_bytes}
use Rattle.causes.proofs.Success.{refused}
use Rattle.reader_step.proofs.read_lent.Goals as goal

pub returns-then-not-is_success : goal.returns-then-not-is_success
returns-then-not-is_success c =
    let a = c.args in
    let n = c.number-number.ensures in (
      c.put_in_words-length.ensures.0,
      was-refused (frame_bytes a.state.age) a.frame _ _ _ c.read_bytes-read.ensures (refused c.is_success.ensures c.if-not-is_success.true)
          (c.put_in_words-length.ensures.1 ∙ (λ i. in_words (n i) (c.place-place.ensures i) a.frame)),
    )

pub put_returned-length-requires : goal.put_returned-length-requires
put_returned-length-requires c = omega (arith, c.requires.1, c.p1-1.given, c.pids-1.given, c.p2-1.given, c.p3-1.given, c.p4-1.given)

pub returns : goal.returns
returns c =
    let a = c.args in
    (c.put_returned-length.ensures.0, was-done (frame_bytes a.state.age) a.frame _ _ _ c.read_bytes-read.ensures (c.is_success.ensures.0 c.if-not-is_success.false) c.put_returned-length.ensures.1)
