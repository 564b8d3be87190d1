-- `put_refusal` meets its contract: the line is refused, or nothing is said. Assumes nothing.
use Rattle.sheetlists.proofs.Said.{said-refused, said-nothing}
use Rattle.sheetlists.proofs.lists.put_refusal.Goals as goal

pub returns-then-line_refused : goal.returns-then-line_refused
returns-then-line_refused c =
    said-refused c.args.mode c.args.count c.args.number c.args.line.now _ _ _ c.line_refused.ensures c.if-line_refused.true _ _ c.refuse.ensures

pub returns : goal.returns
returns c =
    said-nothing c.args.mode c.args.count c.args.number c.args.line.now _ _ _ c.line_refused.ensures c.if-line_refused.false
