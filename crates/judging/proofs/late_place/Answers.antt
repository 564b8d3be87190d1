-- `late_place` meets its contract: P1' stands in PX2 behind P4, of which no mode has both. Assumes nothing.
use mathlib.Core.Path.{sym, ap, ◌∙◌}
use Rattle.runs.specs.MainChannels.{delay_len}
use Rattle.judging.proofs.Staged.{late-judged, second_is, second-long}
use Rattle.judging.proofs.late_place.Goals as goal

pub first_late-requires : goal.first_late-requires
first_late-requires c =
    let m = c.main_of-main.ensures in
    (second-long c.args.state c.args.signal.now.px2.now c.requires.0 c.kind_of.ensures c.matrix_len-n.ensures.0 m, c.requires.1 ∙ ap delay_len (sym m))

pub returns : goal.returns
returns c =
    let a = c.args in
    late-judged a.state a.memory.now.delayed.now _ c.main_of-main.ensures (second_is a.state a.signal.now.px2.now c.requires.0 c.kind_of.ensures c.matrix_len-n.ensures.0) c.first_late.ensures
