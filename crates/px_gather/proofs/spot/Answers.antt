-- `px_gather::spot` meets its contract: the law `spot_is`. Assumes nothing.
use mathlib.Core.Path.{◌≡◌}
use Prim.Native.Nat.{◌+◌, ◌*◌, ◌/◌, ◌%◌, ◌<◌}
use native.Mathlib.Omega.{arith}
use Rattle.px_gather.specs.Entries.{spot}
use Rattle.px_gather.proofs.Turns.{spot-lt, spot_is}
use Rattle.px_gather.proofs.spot.Goals as goal
use Rattle.px_gather.proofs.spot.Goals.{After-partitions}

-- what is found, and its bound
found : (c : After-partitions)
    → let a = c.args in
    let w = c.columns-c.result in
    (11 * a.n % 1152 / w * (w * c.partitions.result) + 11 * a.n % 1152 % w ≡ spot a.kind a.n) × (spot a.kind a.n < 4608)
found c =
    let a = c.args in
    (spot_is a.kind a.n _ _ c.columns-c.ensures c.partitions.ensures.0, spot-lt a.kind a.n c.requires.0)

pub overflow_mul-width : goal.overflow_mul-width
overflow_mul-width c = rw c.columns-c.ensures (omega (arith, c.partitions.ensures.2))

pub overflow_mul-result : goal.overflow_mul-result
overflow_mul-result c = omega (arith, (found c).0, (found c).1)

pub overflow_add-result : goal.overflow_add-result
overflow_add-result c = omega (arith, (found c).0, (found c).1)

pub returns : goal.returns
returns c = ((found c).0, omega (arith, (found c).0, (found c).1))
