-- `decode_px` meets its contract: gathering, and then the way back of the channel. Assumes nothing.
use mathlib.Core.Path.{sym, ◌∙◌}
use Rattle.runs.specs.Chain.{gathered}
use Rattle.runs.specs.Reading.{push}
use Rattle.runs.proofs.Bridge.{used-buffers}
use Rattle.recover.proofs.Channels.{whole}
use Rattle.recover.proofs.Extended.{frames-from, gathered-bit}
use Rattle.recover.proofs.decode_px.Goals as goal

pub decode_channel-requires : goal.decode_channel-requires
decode_channel-requires c =
    let room = c.requires.3 in (
      used-buffers c.args.kind c.args.frames.now _ room.used room.plain (c.coded-1.given ∙ room.long),
      room.between ∙ sym room.plain,
    )

pub returns : goal.returns
returns c =
    let k = c.args.kind in
    let x = push c.args.memory.now c.args.px.now in
    frames-from k c.args.half x c.args.frames.now _ _ c.requires.3.plain
    (c.decode_channel.ensures (gathered k c.args.half x) (gathered-bit k c.args.half x) (whole _ _ _ c.gather_px.ensures))
