-- `wide_bit` meets its contract: the law `wide-told`. Assumes nothing.
use Rattle.finding_px.proofs.Turned.{wide-told}
use Rattle.finding_px.proofs.second.wide_bit.Goals as goal

pub returns : goal.returns
returns c = let a = c.args in wide-told a.row a.column _ _ c.index_of-k.ensures.0 c.partition-turn.ensures.0
