-- `leave` meets its contract: the working's answer in a word, and its numbers. Assumes nothing.
use mathlib.Core.Path.{◌∙◌}
use Rattle.causes.proofs.Success.{refused}
use Rattle.exported_places.proofs.Numbers.{refused-left, length-left, done-left}
use Rattle.exported_places.proofs.worked.leave.Goals as goal

pub returns-then-not-is_success : goal.returns-then-not-is_success
returns-then-not-is_success c =
    refused-left _ _ (refused c.is_success.ensures c.if-not-is_success.true) _ c.answer_word.ensures

pub returns-then-out-ne25 : goal.returns-then-out-ne25
returns-then-out-ne25 c =
    length-left _ _ (c.is_success.ensures.0 c.if-not-is_success.false) c.if-out-ne25.true _ c.answer_word-then-out-ne25.ensures

pub numbers-told-requires : goal.numbers-told-requires
numbers-told-requires c =
    let h = c.requires in
    (h.1, h.2)

pub returns : goal.returns
returns c =
    done-left _ _ (c.is_success.ensures.0 c.if-not-is_success.false) c.if-out-ne25.false _
    (c.copy.ensures ∙ c.numbers-told.ensures)
