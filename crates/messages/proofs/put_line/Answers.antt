-- `messages::put_line` meets its contract. Assumes nothing.
use Rattle.messages.proofs.Put.{put-line}
use Rattle.messages.proofs.put_line.Goals as goal

pub returns : goal.returns
returns c = put-line _ _ _ c.put-a.ensures c.field-b.ensures c.put-c.ensures c.field-d.ensures c.put-e.ensures c.field.ensures
