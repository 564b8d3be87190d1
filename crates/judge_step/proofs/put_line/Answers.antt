-- `put_line` meets its contract. Assumes nothing.
use mathlib.Core.Path.{◌∙◌}
use Rattle.messages.specs.Lines.{in_words}
use Rattle.judge_step.proofs.Lines.{accepted-put, said-refused}
use Rattle.causes.proofs.Success.{refused}
use Rattle.judge_step.proofs.put_line.Goals as goal

pub returns-then-is_success : goal.returns-then-is_success
returns-then-is_success c = accepted-put c.args.verdict c.requires (c.is_success.ensures.0 c.if-is_success.true) c.put.ensures

pub returns : goal.returns
returns c =
    let v = c.args.verdict in
    let n = c.number-number.ensures in
    (c.put_in_words.ensures.0, said-refused v _ (refused c.is_success.ensures c.if-is_success.false) (c.put_in_words.ensures.1 ∙ (λ i. in_words (n i) (c.place-place.ensures i) v.frame)))
