-- `messages::put_no_sheet` meets its contract: nothing of a sheet, or the line and its words. Assumes nothing.
use mathlib.Core.Path.{◌∙◌, sym}
use Rattle.messages.proofs.Put.{of-a-sheet, of_none}
use Rattle.messages.proofs.put_no_sheet.Goals as goal

pub returns-then-not-begins : goal.returns-then-not-begins
returns-then-not-begins c =
    of-a-sheet c.args.sheet.now c.args.out.now (sym c.begins.ensures ∙ c.if-not-begins.true)

pub returns : goal.returns
returns c =
    of_none c.args.sheet.now (sym c.begins.ensures ∙ c.if-not-begins.false) c.within-n.ensures.value c.requires
    c.put-m.ensures c.put_why.ensures
