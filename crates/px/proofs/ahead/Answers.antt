-- `px::ahead` meets its contract. Assumes nothing.
use Prim.Native.Nat.{◌*◌, ◌/◌, ◌^◌, ◌≤◌, ◌<◌}
use native.Mathlib.Nat.{div-add-mod'}
use native.Mathlib.Omega.{arith}
use Rattle.interleaving.specs.PX.{partitions}
use Rattle.px.specs.Merged.{ahead}
use Rattle.px_steps.proofs.Words.{row-of-is, column-is}
use Rattle.px.proofs.Merging.{row_lt}
use Rattle.px_steps.proofs.Residues.{size-le}
use Rattle.px.proofs.ahead.Goals as goal
use Rattle.px.proofs.ahead.Goals.{After-partitions}

-- the row begins at or before the place, and is one of 32
row-le : (c : After-partitions) → c.args.x / 72 / 2 ^ c.args.kind * (c.partitions.result * 36) ≤ c.args.x
row-le c =
    let a = c.args in
    rw (row-of-is a.kind c.requires.0 a.x, c.partitions.ensures.0) (omega (arith, div-add-mod' a.x (partitions a.kind * 36)))

row-few : (c : After-partitions) → c.args.x / 72 / 2 ^ c.args.kind < 32
row-few c =
    let a = c.args in
    row_lt a.kind a.x _ c.requires.0 c.requires.1 (row-of-is a.kind c.requires.0 a.x)

pub overflow_mul-z-2 : goal.overflow_mul-z-2
overflow_mul-z-2 c = omega (arith, row-le c, size-le c.args.kind c.requires.0)

pub overflow_sub-z : goal.overflow_sub-z
overflow_sub-z c = row-le c

pub overflow_mul-result : goal.overflow_mul-result
overflow_mul-result c = omega (arith, row-few c)

pub overflow_add-result : goal.overflow_add-result
overflow_add-result c = omega (arith, row-few c)

pub overflow_add-result-2 : goal.overflow_add-result-2
overflow_add-result-2 c = omega (arith, row-few c, row-le c, size-le c.args.kind c.requires.0)

pub returns : goal.returns
unfolding ahead
returns c =
    let a = c.args in
    let y-is = row-of-is a.kind c.requires.0 a.x in
    let z-is = column-is a.kind a.x _ c.partitions.result y-is c.partitions.ensures.0 in
    (rw (z-is, y-is), omega arith)
