-- `read_bytes` meets its contract: the frames that it lends are blank. Assumes nothing.
use mathlib.Core.Path.{sym}
use lib.Seq.{length-take-le}
use Rattle.frames.proofs.Blank.{room-p1, room-p2, room-p3, room-p4}
use Rattle.reader_step.proofs.Rooms.{blank-is, rooms-fit}
use Rattle.reader_step.proofs.Written.{upon-blank}
use Rattle.reader_step.proofs.read_bytes.Goals as goal

pub slice_bounds-p1-end : goal.slice_bounds-p1-end
slice_bounds-p1-end c = room-p1 _ _ c.reader_lengths-want.ensures

pub slice_bounds-read_lent-end : goal.slice_bounds-read_lent-end
slice_bounds-read_lent-end c = sym (length-take-le _ _ (room-p1 _ _ c.reader_lengths-want.ensures))

pub slice_bounds-p2-end : goal.slice_bounds-p2-end
slice_bounds-p2-end c = room-p2 _ _ c.reader_lengths-want.ensures

pub slice_bounds-read_lent-end-3 : goal.slice_bounds-read_lent-end-3
slice_bounds-read_lent-end-3 c = sym (length-take-le _ _ (room-p2 _ _ c.reader_lengths-want.ensures))

pub slice_bounds-p3-end : goal.slice_bounds-p3-end
slice_bounds-p3-end c = room-p3 _ _ c.reader_lengths-want.ensures

pub slice_bounds-read_lent-end-4 : goal.slice_bounds-read_lent-end-4
slice_bounds-read_lent-end-4 c = sym (length-take-le _ _ (room-p3 _ _ c.reader_lengths-want.ensures))

pub slice_bounds-p4-end : goal.slice_bounds-p4-end
slice_bounds-p4-end c = room-p4 _ _ c.reader_lengths-want.ensures

pub slice_bounds-read_lent-end-5 : goal.slice_bounds-read_lent-end-5
slice_bounds-read_lent-end-5 c = sym (length-take-le _ _ (room-p4 _ _ c.reader_lengths-want.ensures))

pub read_lent-requires : goal.read_lent-requires
read_lent-requires c = rooms-fit _ _ c.reader_lengths-want.ensures _ c.requires

pub returns : goal.returns
returns c =
    let a = c.args in
    let e = c.read_lent.ensures in
    (e.0, upon-blank a.frame a.state _ a.input.now (blank-is _ _ c.reader_lengths-want.ensures) e.1)
