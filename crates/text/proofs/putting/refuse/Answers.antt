-- `refuse` meets its contract. Assumes nothing.
use Rattle.text.proofs.Stored.{put_refused}
use Rattle.text.proofs.putting.refuse.Goals as goal

pub returns : goal.returns
returns c = put_refused _ c.put-m.ensures c.field.ensures
