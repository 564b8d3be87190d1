-- `judge_fill` meets its contract: the case that the test chose. Assumes nothing.
use Rattle.calls.specs.Called.{signal_behind}
use Rattle.judging.proofs.Staged.{cells_are, fill-refused, fill-right}
use Rattle.judging.proofs.judge_fill.Goals as goal

pub returns-then-cell-signal : goal.returns-then-cell-signal
returns-then-cell-signal c =
    let a = c.args in
    fill-refused a.state (signal_behind a.signal.now).matrices c.main_of.ensures c.counted_first-before.ensures.0 (cells_are a.state a.signal.now.px1.now a.signal.now.px2.now c.requires.0 c.requires.1) c.fill_cell-cell.ensures c.if-cell-signal.true

pub returns : goal.returns
returns c =
    let a = c.args in
    fill-right a.state (signal_behind a.signal.now).matrices c.main_of.ensures c.counted_first-before.ensures.0 (cells_are a.state a.signal.now.px1.now a.signal.now.px2.now c.requires.0 c.requires.1) c.fill_cell-cell.ensures c.if-cell-signal.false
