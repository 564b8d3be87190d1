-- `recover_px` meets its contract: nothing is to be recovered where the channel is not used. Assumes nothing.
use Rattle.runs.specs.Reading.{push}
use Rattle.recover.proofs.Extended.{unused}
use Rattle.recover.proofs.recover_px.Goals as goal

pub returns-in-Unused : goal.returns-in-Unused
returns-in-Unused c =
    unused c.args.kind c.args.half (push c.args.memory.now c.args.px.now) c.args.frames.now c.in-Unused.is c.requires.3
