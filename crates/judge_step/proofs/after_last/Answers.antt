-- `after_last` meets its contract. Assumes nothing.
use mathlib.Core.Path.{◌∙◌, sym, ap}
use mathlib.Core.Bool.{Bool}
use Rattle.judge_step.specs.Said.{after_last}
use Rattle.judge_step.proofs.after_last.Goals as goal

pub returns-then-more : goal.returns-then-more
returns-then-more c = c.judged_as.ensures ∙ sym (ap (λ (b : Bool). after_last b c.args.count) c.if-more.true)

pub returns : goal.returns
returns c = c.judged_as-2.ensures ∙ sym (ap (λ (b : Bool). after_last b c.args.count) c.if-more.false)
