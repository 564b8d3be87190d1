-- `put_want` meets its contract. Assumes nothing.
use Rattle.text.proofs.Stored.{put_then}
use Rattle.sheets.proofs.refusals.put_want.Goals as goal

pub returns : goal.returns
returns c = put_then c.put-m.ensures c.field.ensures
