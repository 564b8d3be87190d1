-- `px2::turn` meets its contract: the laws `turn-narrow` and `turn-wide`. Assumes nothing.
use Rattle.px2.proofs.Laws.{turn-narrow, turn-wide}
use Rattle.px2.proofs.turn.Goals as goal

pub returns-then-row-eq0 : goal.returns-then-row-eq0
returns-then-row-eq0 c = turn-narrow _ _ _ _ _ c.if-row-eq0.true c.requires.3 c.turn_of_4.ensures.0

pub returns : goal.returns
returns c = turn-wide _ _ _ _ _ c.requires.0 c.if-row-eq0.false c.turn_of_8.ensures.1 c.turn_of_8.ensures.0
