-- `px_steps::coded_bytes` meets its contract: the table is the definition's. Assumes nothing.
use mathlib.Core.Path.{◌≡◌}
use native.Mathlib.Omega.{arith}
use Rattle.interleaving.specs.PX.{coded_bytes}
use Rattle.px_steps.proofs.coded_bytes.Goals as goal

pub returns-then-kind-eq0 : goal.returns-then-kind-eq0
unfolding coded_bytes
returns-then-kind-eq0 c = (rw c.if-kind-eq0.true, omega arith)

pub returns : goal.returns
unfolding coded_bytes
returns c = let one : c.args.kind ≡ 1 = omega arith in (rw one, omega arith)
