-- `recover_by` meets its contract: the work arrays are of the channel's lengths. Assumes nothing.
use Rattle.recover.proofs.Extended.{room_of}
use Rattle.recover.proofs.recover_by.Goals as goal

pub decode_px-requires : goal.decode_px-requires
decode_px-requires g c =
    let p = c.requires in
    (p.4, p.5, p.6, room_of c.args.kind c.args.frames.now _ _ _ p.0 p.1 p.2 p.3 p.7)
