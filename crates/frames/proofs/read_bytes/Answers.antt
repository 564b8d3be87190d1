-- `read_bytes` meets its contract: the buffers that it lends are those that the definition cuts out of the bytes. Assumes nothing.
use mathlib.Core.Path.{sym}
use native.Mathlib.Omega.{arith}
use lib.Seq.{length-take-le}
use Rattle.layout.proofs.Cut.{signal-is}
use Rattle.frames.proofs.Buffers.{read-in}
use Rattle.frames.proofs.read_bytes.Goals as goal

pub slice_bounds-read-end : goal.slice_bounds-read-end
slice_bounds-read-end c = sym (length-take-le _ _ (omega (arith, c.end_of-a.ensures.1)))

pub returns : goal.returns
returns c =
    let a = c.args in
    read-in c.read.result _ _ _ _ _ _ _
    (signal-is a.mode _ _ a.bytes.now _ c.reader_lengths-want.ensures _ _ _ _
    c.end_of-a.ensures.2 c.end_of-b.ensures.2 c.end_of-c.ensures.2 c.end_of-d.ensures.2)
    c.read.ensures
