-- `one_more` meets its contract. Assumes nothing.
use native.Mathlib.Omega.{arith}
use Rattle.sheetlists.proofs.lists.one_more.Goals as goal

pub returns-then-refused : goal.returns-then-refused
returns-then-refused c = rw c.if-refused.true (omega arith)

pub returns-else-refused : goal.returns-else-refused
returns-else-refused c = rw c.if-refused.false (omega arith)
