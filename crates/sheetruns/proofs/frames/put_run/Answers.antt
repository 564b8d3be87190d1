-- `put_run` meets its contract: the memory that it lends holds zeros. Assumes nothing.
use mathlib.Core.Path.{sym}
use lib.Seq.{length-take-le}
use Rattle.sheetinputs.proofs.Older.{memory-clear, room-memory3, room-memory4}
use Rattle.sheetruns.proofs.frames.put_run.Goals as goal

pub slice_bounds-memory3-end : goal.slice_bounds-memory3-end
slice_bounds-memory3-end c = room-memory3 _ _ c.sender_lengths-want.ensures

pub slice_bounds-put_frames-end : goal.slice_bounds-put_frames-end
slice_bounds-put_frames-end c = sym (length-take-le _ _ (room-memory3 _ _ c.sender_lengths-want.ensures))

pub slice_bounds-memory4-end : goal.slice_bounds-memory4-end
slice_bounds-memory4-end c = room-memory4 _ _ c.sender_lengths-want.ensures

pub slice_bounds-put_frames-end-2 : goal.slice_bounds-put_frames-end-2
slice_bounds-put_frames-end-2 c = sym (length-take-le _ _ (room-memory4 _ _ c.sender_lengths-want.ensures))

pub put_frames-requires : goal.put_frames-requires
put_frames-requires c =
    (c.requires.0, c.requires.1, c.requires.2, c.requires.3, c.requires.4, c.requires.5, c.requires.6, memory-clear c.args.mode _ c.sender_lengths-want.ensures c.requires.0)

pub shape_of-out : goal.shape_of-out
shape_of-out c = c.out-1.given
