-- `px2::pairs` meets its contract: the table is the definition's. Assumes nothing.
use native.Mathlib.Omega.{arith}
use Rattle.interleaving.specs.PX2.{partitions}
use Rattle.px2.proofs.Laws.{pairs_of}
use Rattle.px2.proofs.pairs.Goals as goal

pub returns : goal.returns
unfolding partitions
returns c = omega (arith, pairs_of c.args.row c.requires)
