-- `judge_p1` meets its contract: the coded bits of P1 stand in front. Assumes nothing.
use mathlib.Core.Path.{sym}
use lib.Seq.{length-take-le}
use native.Mathlib.Omega.{arith}
use Rattle.recover.proofs.Mains.{p1-buffers, p1-judged}
use Rattle.recover.proofs.judge_p1.Goals as goal

pub slice_bounds-judge_channel-end : goal.slice_bounds-judge_channel-end
slice_bounds-judge_channel-end c = sym (length-take-le _ _ (omega (arith, c.coded_bytes-k.ensures.1, c.requires.0)))

pub judge_channel-requires : goal.judge_channel-requires
judge_channel-requires c =
    let a = c.args in
    rw (c.p1_bytes-n.ensures, c.p1_frames-count.ensures.0, c.coded_bytes-k.ensures.0) (p1-buffers a.main a.coded.now c.requires.0 a.scrambled.now c.requires.1)

pub returns : goal.returns
returns c =
    let a = c.args in
    λ y bits e.
    p1-judged a.main a.coded.now c.requires.0 y bits e a.scrambled.now _ _ _ _ _ c.requires.1 c.p1_bytes-n.ensures c.p1_frames-count.ensures.0 c.coded_bytes-k.ensures.0 c.judge_channel.ensures.value c.judge_channel.ensures.between_after
