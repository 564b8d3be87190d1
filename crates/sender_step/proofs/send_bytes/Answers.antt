-- `send_bytes` meets its contract: the buffers that it lends are blank. Assumes nothing.
use mathlib.Core.Path.{sym}
use lib.Seq.{length-take-le}
use Rattle.sender_step.proofs.Rooms.{blank-is, room-px1, room-px2, rooms-fit}
use Rattle.sender_step.proofs.Written.{upon-blank}
use Rattle.sender_step.proofs.send_bytes.Goals as goal

pub slice_bounds-px1-end : goal.slice_bounds-px1-end
slice_bounds-px1-end c = room-px1 _ _ c.sender_lengths-want.ensures

pub slice_bounds-send_lent-end-2 : goal.slice_bounds-send_lent-end-2
slice_bounds-send_lent-end-2 c = sym (length-take-le _ _ (room-px1 _ _ c.sender_lengths-want.ensures))

pub slice_bounds-px2-end : goal.slice_bounds-px2-end
slice_bounds-px2-end c = room-px2 _ _ c.sender_lengths-want.ensures

pub slice_bounds-send_lent-end-3 : goal.slice_bounds-send_lent-end-3
slice_bounds-send_lent-end-3 c = sym (length-take-le _ _ (room-px2 _ _ c.sender_lengths-want.ensures))

pub send_lent-requires : goal.send_lent-requires
send_lent-requires c = rooms-fit _ _ c.sender_lengths-want.ensures _ c.requires

pub returns : goal.returns
returns c =
    let a = c.args in
    let e = c.send_lent.ensures in
    (e.0, upon-blank a.n3 a.n4 a.frame a.state _ a.input.now (blank-is _ _ c.sender_lengths-want.ensures) e.1)
