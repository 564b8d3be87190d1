-- `listing::pair` meets its contract. Assumes nothing.
use Rattle.text.proofs.Stored.{put_then}
use Rattle.listing.proofs.printing.pair.Goals as goal

pub returns : goal.returns
returns c = put_then c.field-m.ensures c.field.ensures
