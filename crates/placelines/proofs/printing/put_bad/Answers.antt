-- `put_bad` meets its contract. Assumes nothing.
use Rattle.placelines.proofs.Texts.{bad}
use Rattle.placelines.proofs.printing.put_bad.Goals as goal

pub returns : goal.returns
returns c =
    bad _ c.put-m.ensures c.field.ensures
