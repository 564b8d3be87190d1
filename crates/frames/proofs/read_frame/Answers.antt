-- `read_frame` meets its contract: the buffers that it lends are blank. Assumes nothing.
use mathlib.Core.Path.{sym}
use lib.Seq.{length-take-le}
use Rattle.frames.proofs.Blank.{read_of, room-p1, room-p2, room-p3, room-p4}
use Rattle.frames.proofs.read_frame.Goals as goal

pub slice_bounds-p1-end : goal.slice_bounds-p1-end
slice_bounds-p1-end c = room-p1 _ _ c.reader_lengths-want.ensures

pub slice_bounds-read_bytes-end : goal.slice_bounds-read_bytes-end
slice_bounds-read_bytes-end c = sym (length-take-le _ _ (room-p1 _ _ c.reader_lengths-want.ensures))

pub slice_bounds-p2-end : goal.slice_bounds-p2-end
slice_bounds-p2-end c = room-p2 _ _ c.reader_lengths-want.ensures

pub slice_bounds-read_bytes-end-3 : goal.slice_bounds-read_bytes-end-3
slice_bounds-read_bytes-end-3 c = sym (length-take-le _ _ (room-p2 _ _ c.reader_lengths-want.ensures))

pub slice_bounds-p3-end : goal.slice_bounds-p3-end
slice_bounds-p3-end c = room-p3 _ _ c.reader_lengths-want.ensures

pub slice_bounds-read_bytes-end-4 : goal.slice_bounds-read_bytes-end-4
slice_bounds-read_bytes-end-4 c = sym (length-take-le _ _ (room-p3 _ _ c.reader_lengths-want.ensures))

pub slice_bounds-p4-end : goal.slice_bounds-p4-end
slice_bounds-p4-end c = room-p4 _ _ c.reader_lengths-want.ensures

pub slice_bounds-read_bytes-end-5 : goal.slice_bounds-read_bytes-end-5
slice_bounds-read_bytes-end-5 c = sym (length-take-le _ _ (room-p4 _ _ c.reader_lengths-want.ensures))

pub returns : goal.returns
returns c =
    let a = c.args in
    read_of a.mode _ c.reader_lengths-want.ensures a.state _ _ a.bytes.now c.read_bytes.result _ c.read_bytes.ensures
