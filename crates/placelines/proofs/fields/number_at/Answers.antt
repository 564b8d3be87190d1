-- `number_at` meets its contract: a word, or all that is left for the last. Assumes nothing.
use mathlib.Core.Path.{◌∙◌}
use Rattle.placelines.proofs.Numbers.{number_word, number-last}
use Rattle.placelines.proofs.fields.number_at.Goals as goal

pub returns-then-k-lt15 : goal.returns-then-k-lt15
returns-then-k-lt15 c =
    c.value.ensures
    ∙ number_word c.args.line.now c.args.k c.past_spaces-at.result c.past_spaces-at.ensures.1 c.if-k-lt15.true _ c.word.ensures

pub returns : goal.returns
returns c =
    c.value-2.ensures
    ∙ number-last c.args.line.now c.args.k c.past_spaces-at.result c.past_spaces-at.ensures.1 c.if-k-lt15.false
