-- `px_gather::entry` meets its contract: the law `entry-turn`. Assumes nothing.
use mathlib.Core.Path.{◌≡◌}
use Prim.Native.Nat.{◌+◌, ◌*◌, ◌≤◌}
use native.Mathlib.Omega.{arith}
use Rattle.px_gather.proofs.Turns.{entry-turn}
use Rattle.px_gather.proofs.Turns.{blocks-fit}
use Rattle.px_gather.proofs.entry.Goals as goal
use Rattle.px_gather.proofs.entry.Goals.{After-columns}

-- the partition's first column
first-is : (c : After-columns)
    → let p = c.args.p in
    c.columns.result * p ≡ 36 * p
first-is c = rw c.columns.ensures

pub overflow_mul-result : goal.overflow_mul-result
overflow_mul-result c = (blocks-fit _ _ _ 0 c.block_count.ensures c.block.ensures.1 (omega arith)).0

pub overflow_mul-result-2 : goal.overflow_mul-result-2
overflow_mul-result-2 c = omega (arith, first-is c, c.requires.1)

pub overflow_add-result : goal.overflow_add-result
overflow_add-result c = omega (arith, first-is c, c.spot-at.ensures.1, c.requires.1)

pub overflow_add-result-2 : goal.overflow_add-result-2
overflow_add-result-2 c =
    let e = c.spot-at.result + c.columns.result * c.args.p in
    let e-le : e ≤ 4750 = omega (arith, first-is c, c.spot-at.ensures.1, c.requires.1) in
    (blocks-fit _ _ _ e c.block_count.ensures c.block.ensures.1 e-le).1

pub returns : goal.returns
returns c =
    let a = c.args in
    rw (c.spot-at.ensures.0, c.block.ensures.0, c.block_count.ensures, c.columns.ensures)
    (entry-turn a.kind a.p a.turn a.n c.requires.0 c.requires.3)
