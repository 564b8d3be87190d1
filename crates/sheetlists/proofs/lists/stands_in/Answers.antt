-- `stands_in` meets its contract. Assumes nothing.
use Rattle.sheetlists.proofs.Said.{refused-stands, stood}
use Rattle.sheetlists.proofs.lists.stands_in.Goals as goal

pub returns-then-is_refused : goal.returns-then-is_refused
returns-then-is_refused c = refused-stands _ _ _ _ c.is_refused.ensures c.if-is_refused.true

pub returns : goal.returns
returns c = stood _ _ _ _ _ c.is_refused.ensures c.turn_of.ensures c.if-is_refused.false
