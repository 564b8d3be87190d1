-- `judge_frame` meets its contract: cut short, or as the reading says. Assumes nothing.
use mathlib.Core.Path.{sym}
use lib.Seq.{length-take-le}
use Rattle.dumps.proofs.Steps.{cut_short, read_next}
use Rattle.dumps.proofs.judge_frame.Goals as goal

pub returns-then-bytes-n : goal.returns-then-bytes-n
returns-then-bytes-n c =
    cut_short c.args.mode c.args.t c.args.state _ c.args.bytes.now _ c.frame_bytes-n.ensures c.if-bytes-n.true _ c.judged_as.ensures

pub slice_bounds-read_frame-end : goal.slice_bounds-read_frame-end
slice_bounds-read_frame-end c =
    sym (length-take-le c.frame_bytes-n.result c.args.bytes.now c.if-bytes-n.false)

pub returns : goal.returns
returns c =
    read_next c.args.mode c.args.t c.args.state _ c.args.bytes.now _ c.frame_bytes-n.ensures c.if-bytes-n.false c.read_frame-read.result _ _ c.read_frame-read.ensures _ c.judged_as-2.ensures
