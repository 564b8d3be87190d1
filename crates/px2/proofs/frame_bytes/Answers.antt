-- `px2::frame_bytes` meets its contract: the table is the definition's. Assumes nothing.
use native.Mathlib.Omega.{arith}
use Rattle.interleaving.specs.PX2.{frame_bits}
use Rattle.px2.proofs.Laws.{bytes_of}
use Rattle.px2.proofs.frame_bytes.Goals as goal

pub returns : goal.returns
unfolding frame_bits
returns c = omega (arith, bytes_of c.args.row c.requires)
