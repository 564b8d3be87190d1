-- `px_steps::partition` meets its contract: the tables are the definition's v2 and v4. Assumes nothing.
use mathlib.Core.Path.{◌≡◌}
use native.Mathlib.Omega.{arith}
use Rattle.interleaving.specs.PX.{partitions, order, v2, v4}
use Rattle.interleaving.proofs.PXKinds.{kind-is}
use Rattle.px_steps.proofs.partition.Goals as goal

pub offset_bounds-s : goal.offset_bounds-s
offset_bounds-s c = omega (arith, c.requires.1, (kind-is c.args.kind c.requires.0).J-le)

pub bounds-s : goal.bounds-s
unfolding partitions
bounds-s c = rw c.if-kind-eq0.true at c.requires.1

pub returns-then-kind-eq0 : goal.returns-then-kind-eq0
unfolding order v2
returns-then-kind-eq0 c = rw c.if-kind-eq0.true

pub offset_bounds-s-2 : goal.offset_bounds-s-2
offset_bounds-s-2 c = omega (arith, c.requires.1, (kind-is c.args.kind c.requires.0).J-le)

pub bounds-s-2 : goal.bounds-s-2
bounds-s-2 c = omega (arith, c.requires.1, (kind-is c.args.kind c.requires.0).J-le)

pub returns : goal.returns
unfolding order v4
returns c = let one : c.args.kind ≡ 1 = omega arith in rw one
