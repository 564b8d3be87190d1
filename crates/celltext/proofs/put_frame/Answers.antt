-- `celltext::put_frame` meets its contract. Assumes nothing.
use Rattle.celltext.proofs.Restored.{put-frame-line}
use Rattle.celltext.proofs.put_frame.Goals as goal

pub returns : goal.returns
returns c =
    put-frame-line _ c.requires.0
    c.put_hexadecimal-end.ensures c.put.ensures
