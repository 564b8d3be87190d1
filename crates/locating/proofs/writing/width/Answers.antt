-- `width` meets its contract. Assumes nothing.
use native.Mathlib.Omega.{arith}
use Rattle.locating.proofs.Counted.{width_narrow, width-wide}
use Rattle.locating.proofs.writing.width.Goals as goal

pub returns-then-kind-eq0 : goal.returns-then-kind-eq0
returns-then-kind-eq0 c = (width_narrow _ c.if-kind-eq0.true, omega arith)

pub returns : goal.returns
returns c = (width-wide _ (omega arith), omega arith)
