-- `narrow_bit` meets its contract: the law `narrow-told`. Assumes nothing.
use Rattle.finding_px.proofs.Turned.{narrow-told}
use Rattle.finding_px.proofs.second.narrow_bit.Goals as goal

pub returns : goal.returns
returns c = let a = c.args in narrow-told a.row a.column _ c.index_of-k.ensures.0
