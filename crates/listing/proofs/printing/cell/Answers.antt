-- `listing::cell` meets its contract. Assumes nothing.
use Rattle.listing.proofs.Celled.{put-cell}
use Rattle.listing.proofs.printing.cell.Goals as goal

pub returns : goal.returns
returns c = λ name e.
    put-cell _ _ _ _ name e c.requires.1 c.pair-m.ensures c.put-n.ensures c.pair.ensures
