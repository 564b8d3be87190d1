-- `are_named` meets its contract. Assumes nothing.
use Rattle.sheetinputs.proofs.Older.{named-first, named-second}
use Rattle.sheetinputs.proofs.inputs.are_named.Goals as goal

pub returns-then-is_misnamed : goal.returns-then-is_misnamed
returns-then-is_misnamed c =
    named-first _ _ _ _ c.sender_lengths-want.ensures _ c.is_misnamed.ensures c.if-is_misnamed.true

pub returns : goal.returns
returns c =
    named-second _ _ _ _ c.sender_lengths-want.ensures _ c.is_misnamed.ensures c.if-is_misnamed.false _ c.is_misnamed-2.ensures
