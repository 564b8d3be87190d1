-- `write_px` meets its contract: nothing is to be written where the channel is not used. Assumes nothing.
use native.Mathlib.Omega.{arith}
use Rattle.runs.specs.Lengths.{frame_len}
use Rattle.runs.specs.Lent.{or_zeros}
use Rattle.chain.proofs.Extends.{room_of, unused}
use Rattle.chain.proofs.write_px.Goals as goal

pub interleave_px-requires : goal.interleave_px-requires
interleave_px-requires c =
    let a = c.args in
    let pre = c.requires in
    let e = c.in-Narrow.is in
    (pre.0, room_of a.kind a.frames.now a.px.now 4608 (rw e (omega arith)) (rw e) pre.1 pre.2, pre.3)

pub interleave_px-requires-in-Wide : goal.interleave_px-requires-in-Wide
interleave_px-requires-in-Wide c =
    let a = c.args in
    let pre = c.requires in
    let e = c.in-Wide.is in
    (pre.0, room_of a.kind a.frames.now a.px.now 9216 (rw e (omega arith)) (rw e) pre.1 pre.2, pre.3)

pub returns-in-Unused : goal.returns-in-Unused
returns-in-Unused c =
    let a = c.args in
    unused a.kind a.half (or_zeros (frame_len a.kind) a.frames.now) a.px.now a.memory.now c.in-Unused.is
    c.requires.2 c.requires.3
