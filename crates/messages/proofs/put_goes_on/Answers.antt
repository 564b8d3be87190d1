-- `messages::put_goes_on` meets its contract. Assumes nothing.
use Rattle.messages.proofs.Put.{put-goes-on}
use Rattle.messages.proofs.put_goes_on.Goals as goal

pub returns : goal.returns
returns c = put-goes-on _ c.requires c.put-a.ensures c.field.ensures
