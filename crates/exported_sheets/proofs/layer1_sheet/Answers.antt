-- `layer1_sheet` meets its contract: `layer1::sheet` gave it. Assumes nothing.
use Rattle.exported_sheets.proofs.Put.{answer-small, sheet-left}
use Rattle.exported_sheets.proofs.layer1_sheet.Goals as goal

pub answer_word-requires : goal.answer_word-requires
answer_word-requires c = answer-small _ _ _ _ _ _ _ _ c.sheet-sheet.ensures

pub returns : goal.returns
returns c =
    let a = c.args in
    sheet-left a.mode a.count a.without3 a.without4 a.work _ _ _ _ _ c.says_yes.ensures c.says_yes-2.ensures c.says_yes-3.ensures _ c.sheet-sheet.ensures _ c.answer_word.ensures
