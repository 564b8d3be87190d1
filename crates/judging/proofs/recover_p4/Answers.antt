-- `recover_p4` meets its contract: the matrices of P4 stand first in PX2. Assumes nothing.
use mathlib.Core.Path.{sym, ap, ◌∙◌}
use Rattle.runs.specs.Lengths.{frame_len, reader_len}
use Rattle.judging.proofs.Staged.{fourth-is, fourth-long, p4-judged}
use Rattle.judging.proofs.recover_p4.Goals as goal

pub slice_bounds-recover_px-end : goal.slice_bounds-recover_px-end
slice_bounds-recover_px-end c =
    sym (fourth-long c.args.state c.args.px2.now c.requires.1 c.kind_of-kind.ensures c.matrix_len-n.ensures.0)

pub recover_px-requires : goal.recover_px-requires
recover_px-requires c =
    let k = sym c.kind_of-kind.ensures in
    (c.requires.0, c.requires.2 ∙ ap reader_len k, fourth-long c.args.state c.args.px2.now c.requires.1 c.kind_of-kind.ensures c.matrix_len-n.ensures.0 ∙ c.matrix_len-n.ensures.0, c.requires.3 ∙ ap frame_len k)

pub returns : goal.returns
returns c =
    let a = c.args in
    p4-judged a.state a.memory4.now c.kind_of-kind.ensures (fourth-is a.state a.px2.now c.requires.1 c.kind_of-kind.ensures c.matrix_len-n.ensures.0) c.recover_px.ensures
