use mathlib.Core.Path.{◌≡◌, refl}
use Prim.Native.Nat.{◌*◌, ◌/◌}
use native.Mathlib.Omega.{arith}
use Rattle.interleaving.specs.PX.{partitions}
use Rattle.px_steps.proofs.Residues.{residues-all}
use Rattle.px_lanes.specs.Laid.{Laid}
use Rattle.px_lanes.proofs.LaneLaws.{rows_all, laid-at, laid_none}
use borrow.Author.Rules.{rules}
use Rattle.px_lanes.proofs.fresh.Goals as goal

pub fill_lanes-requires : goal.fill_lanes-requires
fill_lanes-requires c = (c.requires.0, refl)

pub loop-r-init : goal.loop-r-init
loop-r-init c =
    (omega arith, c.requires.2, refl, laid-at _ (laid_none c.args.kind c.args.coded.now c.args.px.now) (omega arith))

pub row_quads-requires : goal.row_quads-requires
row_quads-requires c =
    (c.requires.0, c.loop-r-test.true, c.fill_lanes.ensures, c.requires.1, c.loop-r.invariant.2)

pub fresh_row-requires : goal.fresh_row-requires
fresh_row-requires c =
    (c.requires.0, c.loop-r-test.true, c.loop-r.invariant.1)

pub loop-r-preserved : goal.loop-r-preserved
loop-r-preserved c =
    let loop = c.loop-r in
    let row = c.row_quads.ensures in
    (omega (arith, c.loop-r-test.true), search rules, row.0, c.fresh_row.ensures c.args.coded.now row.1 loop.invariant.3)

pub returns : goal.returns
returns c =
    let kind = c.args.kind in
    let loop = c.loop-r in
    let r-is : loop.r ≡ 32 = omega (arith, loop.invariant.0, c.loop-r-test.false) in
    let laid : Laid kind c.args.coded.now (9 * (partitions kind / 2) * 32) loop.px = rw r-is at loop.invariant.3 in
    residues-all kind (9 * (partitions kind / 2) * 32) _ loop.px c.requires.0 loop.invariant.1
    (omega (arith, rows_all kind c.requires.0)) laid.is
