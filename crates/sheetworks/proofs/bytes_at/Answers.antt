-- `bytes_at` meets its contract. Assumes nothing.
use native.Mathlib.Omega.{arith}
use Rattle.sheetworks.proofs.Parts.{bytes-is, size-positive}
use Rattle.sheetworks.proofs.bytes_at.Goals as goal

pub start_of-start-requires : goal.start_of-start-requires
start_of-start-requires c =
    (omega (arith, c.frame_size-size.ensures.0, size-positive c.args.mode c.args.n3 c.args.n4), c.frame_size-size.ensures.1, c.requires.2)

pub returns : goal.returns
returns c =
    bytes-is c.args.mode c.args.n3 c.args.n4 c.args.bytes.now c.args.from _ _ _ c.frame_size-size.ensures.0 c.start_of-start.ensures.1 c.end_of-end.ensures.2
