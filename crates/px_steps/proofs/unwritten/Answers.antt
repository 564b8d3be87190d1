-- `px_steps::unwritten` meets its contract: the laws `unwritten-yes` and `unwritten-no`. Assumes nothing.
use mathlib.Core.Path.{refl, ap}
use Prim.Native.Nat.{◌*◌, ◌/◌, ◌^◌, ◌≤◌}
use native.Mathlib.Nat.{div-add-mod'}
use native.Mathlib.Omega.{arith}
use lib.Dec.{ltb}
use Rattle.interleaving.specs.PX.{partitions}
use Rattle.interleaving.proofs.PXKinds.{coded_bytes-le}
use Rattle.px_steps.proofs.Words.{row-of-is, column-is}
use Rattle.px_steps.proofs.Early.{unwritten-yes, unwritten-no}
use Rattle.px_steps.proofs.unwritten.Goals as goal

-- the row begins at or before the cell
row-le : (c : goal.After-partitions) → c.args.i / 72 / 2 ^ c.args.kind * (c.partitions.result * 36) ≤ c.args.i
row-le c =
    let a = c.args in
    rw (row-of-is a.kind c.requires.0 a.i, c.partitions.ensures.0) (omega (arith, div-add-mod' a.i (partitions a.kind * 36)))

pub overflow_mul-x-2 : goal.overflow_mul-x-2
overflow_mul-x-2 c = omega (arith, row-le c, coded_bytes-le c.args.kind c.requires.0)

pub overflow_sub-x : goal.overflow_sub-x
overflow_sub-x c = row-le c

pub returns-then-y-s : goal.returns-then-y-s
returns-then-y-s c =
    let a = c.args in
    let pre = c.requires in
    let y-is = row-of-is a.kind pre.0 a.i in
    let z-is = column-is a.kind a.i _ c.partitions.result y-is c.partitions.ensures.0 in
    unwritten-yes a.kind a.i _ _ _ pre.0 pre.1 y-is z-is refl c.if-y-s.true

pub returns-then-s-gt0 : goal.returns-then-s-gt0
returns-then-s-gt0 c =
    let a = c.args in
    let pre = c.requires in
    let y-is = row-of-is a.kind pre.0 a.i in
    let z-is = column-is a.kind a.i _ c.partitions.result y-is c.partitions.ensures.0 in
    unwritten-no a.kind a.i _ _ _ pre.0 pre.1 y-is z-is refl c.if-y-s.false c.if-s-gt0.true

pub returns : goal.returns
returns c = ap (ltb c.args.i) c.source.ensures
