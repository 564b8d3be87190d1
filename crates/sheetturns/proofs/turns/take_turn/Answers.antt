-- `take_turn` meets its contract: the buffers that it lends are blank. Assumes nothing.
use mathlib.Core.Path.{sym, ap₂}
use Prim.Native.Nat.{ℕ}
use lib.Seq.{length-take-le}
use Rattle.runs.specs.Lent.{Signal}
use Rattle.layout.specs.Inputs.{frames_in, handed}
use Rattle.sheetinputs.proofs.Older.{room-px1, room-px2}
use Rattle.sheetturns.proofs.Turning.{blank-lent, turned_as}
use Rattle.sheetturns.proofs.turns.take_turn.Goals as goal

pub slice_bounds-px1-end : goal.slice_bounds-px1-end
slice_bounds-px1-end c = room-px1 _ _ c.sender_lengths-want.ensures

pub slice_bounds-send_and_put-end-2 : goal.slice_bounds-send_and_put-end-2
slice_bounds-send_and_put-end-2 c = sym (length-take-le _ _ (room-px1 _ _ c.sender_lengths-want.ensures))

pub slice_bounds-px2-end : goal.slice_bounds-px2-end
slice_bounds-px2-end c = room-px2 _ _ c.sender_lengths-want.ensures c.requires.1

pub slice_bounds-send_and_put-end-3 : goal.slice_bounds-send_and_put-end-3
slice_bounds-send_and_put-end-3 c = sym (length-take-le _ _ (room-px2 _ _ c.sender_lengths-want.ensures c.requires.1))

pub shape_of-memory3 : goal.shape_of-memory3
shape_of-memory3 c = c.memory3-1.given

pub shape_of-memory4 : goal.shape_of-memory4
shape_of-memory4 c = c.memory4-1.given

pub shape_of-delay : goal.shape_of-delay
shape_of-delay c = c.delay-1.given

pub shape_of-out : goal.shape_of-out
shape_of-out c = c.out-1.given

pub returns : goal.returns
returns c =
    let a = c.args in
    turned_as _ _ (ap₂ (λ (k : ℕ) (x : Signal). handed (frames_in k a.n3 a.n4 a.bytes.now) x) c.requires.0 (blank-lent a.mode _ c.sender_lengths-want.ensures c.requires.1)) c.send_and_put.ensures
