-- `send_lent` meets its contract: the L1 frame was sent, or it was refused. Assumes nothing.
use mathlib.Core.Path.{◌∙◌}
use native.Mathlib.Omega.{arith}
use Rattle.messages.specs.Lines.{in_words}
use Rattle.steps.proofs.Taken.{was-done, was-refused}
use Rattle.sender_step.specs.Written.{signal_bytes}
use Rattle.causes.proofs.Success.{refused}
use Rattle.sender_step.proofs.send_lent.Goals as goal

pub returns-then-not-is_success : goal.returns-then-not-is_success
returns-then-not-is_success c = (
  c.put_in_words-length.ensures.0,
  was-refused signal_bytes c.args.frame _ _ _ c.send_input-sent.ensures (refused c.is_success.ensures c.if-not-is_success.true)
      (c.put_in_words-length.ensures.1 ∙ (λ i. in_words (c.number-number.ensures i) (c.place-place.ensures i) c.args.frame)),
)

pub put_signal-length-requires : goal.put_signal-length-requires
put_signal-length-requires c = omega (arith, c.requires.1, c.pm-1.given, c.px1-1.given, c.px2-1.given, c.control-1.given)

pub returns : goal.returns
returns c = (
  c.put_signal-length.ensures.0,
  was-done signal_bytes c.args.frame _ _ _ c.send_input-sent.ensures (c.is_success.ensures.0 c.if-not-is_success.false) c.put_signal-length.ensures.1,
)
