-- `entry_of` meets its contract: the laws `narrow-entry` and `wide-entry`. Assumes nothing.
use mathlib.Core.Path.{refl}
use native.Mathlib.Omega.{arith}
use Rattle.interleaving.proofs.PXKinds.{coded_bytes-le}
use Rattle.locating.proofs.Counted.{narrow-entry, wide-entry}
use Rattle.locating.proofs.writing.entry_of.Goals as goal

pub overflow_add-x : goal.overflow_add-x
overflow_add-x c = omega (arith, coded_bytes-le c.args.kind c.requires.0)

pub returns-then-kind-eq0 : goal.returns-then-kind-eq0
returns-then-kind-eq0 c = narrow-entry c.args.kind c.args.i _ _ c.if-kind-eq0.true c.requires.1 refl refl

pub returns : goal.returns
returns c = wide-entry c.args.kind c.args.i _ _ (omega arith) c.requires.1 refl refl
