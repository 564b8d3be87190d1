-- `pm::gather::nibble` meets its contract: the laws `nibble-even` and `nibble-odd`. Assumes nothing.
use Prim.Native.Nat.{◌+◌, ◌/◌}
use native.Mathlib.Omega.{arith}
use Rattle.pm.proofs.BackLaws.{nibble-even, nibble-odd}
use Rattle.pm.proofs.gather.nibble.Goals as goal

pub returns-then-z-eq0 : goal.returns-then-z-eq0
returns-then-z-eq0 c =
    let a = c.args in
    nibble-even a.pm.now a.n a.z (omega (arith, c.shared_slice_known-1.given (a.n + a.z / 2))) c.if-z-eq0.true

pub returns : goal.returns
returns c =
    let a = c.args in
    nibble-odd a.pm.now a.n a.z (omega (arith, c.shared_slice_known-2-1.given (a.n + a.z / 2))) c.if-z-eq0.false
