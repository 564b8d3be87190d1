-- `trellis::choose` meets its contract. Assumes nothing.
use native.Mathlib.Omega.{arith}
use Rattle.trellis.proofs.Scoring.{lower-zero, lower-one}
use Rattle.trellis.proofs.choose.Goals as goal

pub returns-then-zero-one : goal.returns-then-zero-one
returns-then-zero-one c = (lower-zero _ _ _ _ _ _ c.ahead-zero.ensures c.ahead-one.ensures c.if-zero-one.true, omega arith)

pub returns : goal.returns
returns c = (lower-one _ _ _ _ _ _ c.ahead-zero.ensures c.ahead-one.ensures c.if-zero-one.false, omega arith)
