-- `pm::partition_at` meets its contract: the order is v. Assumes nothing.
use mathlib.Core.Path.{ap}
use mathlib.Core.List.{List}
use Prim.Native.Nat.{ℕ}
use native.Mathlib.Omega.{arith}
use lib.ListN.{get_or}
use Rattle.interleaving.proofs.OncePM.{perm}
use Rattle.pm.proofs.partition_at.Goals as goal

pub returns : goal.returns
returns c =
    let a = c.args in
    let is = ap (λ (l : List ℕ). get_or l a.s 0) c.requires.0 in
    (is, omega (arith, is, perm.v-lt a.s c.requires.1))
