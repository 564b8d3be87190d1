-- `px_steps::block` meets its contract: the products are 1152 times the definition's. Assumes nothing.
use mathlib.Core.Path.{◌≡◌}
use native.Mathlib.Omega.{arith}
use Rattle.interleaving.specs.PX.{partitions}
use Rattle.px_steps.proofs.block.Goals as goal

pub returns-then-kind-eq0 : goal.returns-then-kind-eq0
unfolding partitions
returns-then-kind-eq0 c = (rw c.if-kind-eq0.true, omega arith)

pub returns : goal.returns
unfolding partitions
returns c = let one : c.args.kind ≡ 1 = omega arith in (rw one, omega arith)
