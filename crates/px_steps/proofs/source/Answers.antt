-- `px_steps::source` meets its contract: the law `source_is`. Assumes nothing.
use mathlib.Core.Path.{ap, ◌∙◌}
use Prim.Native.Nat.{◌*◌, ◌/◌, ◌^◌, ◌≤◌}
use native.Mathlib.Nat.{div-add-mod'}
use native.Mathlib.Omega.{arith}
use Rattle.interleaving.specs.InverseIV.{index}
use Rattle.interleaving.specs.PX.{partitions, runs}
use Rattle.interleaving.proofs.PXKinds.{coded_bytes-le}
use Rattle.px_steps.proofs.Words.{row-of-is, column-is}
use Rattle.px_steps.proofs.Cells.{part-of-lt, block-of-lt, source_is}
use Rattle.px_steps.proofs.source.Goals as goal

-- the row begins at or before the cell
row-le : (c : goal.After-partitions) → c.args.c / 72 / 2 ^ c.args.kind * (c.partitions.result * 36) ≤ c.args.c
row-le c =
    let a = c.args in
    rw (row-of-is a.kind c.requires.0 a.c, c.partitions.ensures.0) (omega (arith, div-add-mod' a.c (partitions a.kind * 36)))

pub overflow_mul-x-2 : goal.overflow_mul-x-2
overflow_mul-x-2 c = omega (arith, row-le c, coded_bytes-le c.args.kind c.requires.0)

pub overflow_sub-x : goal.overflow_sub-x
overflow_sub-x c = row-le c

pub entry_at-requires : goal.entry_at-requires
entry_at-requires c =
    let a = c.args in
    let pre = c.requires in
    let y-is = row-of-is a.kind pre.0 a.c in
    let z-is = column-is a.kind a.c _ c.partitions.result y-is c.partitions.ensures.0 in
    omega (
      arith,
      part-of-lt a.kind pre.0 a.c _ _ y-is z-is pre.1,
      block-of-lt a.kind pre.0 a.c _ _ y-is z-is pre.1,
    )

pub step-requires : goal.step-requires
step-requires c =
    let a = c.args in
    let pre = c.requires in
    let J = c.partitions in
    let y-is = row-of-is a.kind pre.0 a.c in
    let z-is = column-is a.kind a.c _ J.result y-is J.ensures.0 in
    omega (arith, part-of-lt a.kind pre.0 a.c _ _ y-is z-is pre.1)

pub returns : goal.returns
returns c =
    let a = c.args in
    let pre = c.requires in
    let J = c.partitions in
    let y-is = row-of-is a.kind pre.0 a.c in
    let z-is = column-is a.kind a.c _ J.result y-is J.ensures.0 in
    c.step.ensures
    ∙ ap (index (partitions a.kind) (runs a.kind) _) c.entry_at.ensures.0
    ∙ source_is a.kind pre.0 a.c _ _ y-is z-is pre.1
