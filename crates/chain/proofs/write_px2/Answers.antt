-- `write_px2` meets its contract: P4's matrices, and behind them those of P1'. Assumes nothing.
use mathlib.Core.Path.{sym, ◌∙◌}
use native.Mathlib.Omega.{arith}
use lib.Seq.{length-take-le}
use Rattle.runs.specs.Lengths.{frame_len}
use Rattle.runs.specs.Lent.{or_zeros}
use Rattle.chain.proofs.Parts.{put-px2}
use Rattle.chain.proofs.write_px2.Goals as goal

pub slice_bounds-write_px-end-2 : goal.slice_bounds-write_px-end-2
slice_bounds-write_px-end-2 c = sym (length-take-le c.matrix_len-k.result c.args.px2.now (omega arith))

pub write_px-requires : goal.write_px-requires
write_px-requires c =
    let k = c.matrix_len-k in
    (c.requires.0, c.requires.1, length-take-le k.result c.args.px2.now (omega (arith, k.ensures)) ∙ k.ensures.0, c.requires.4)

pub returns : goal.returns
returns c =
    let k = c.matrix_len-k in
    let a = c.args in
    record {
      by_index = (λ t. put-px2 a.kind a.half a.memory.now (or_zeros (frame_len a.kind) a.p4.now) k.result c.write_px.new.px c.write_delayed.new.px2 a.px2.now _ k.ensures.0 c.write_px.ensures.0 (c.write_delayed.ensures t));
      memory_after = c.write_px.ensures.1;
    }
