-- `later` meets its contract: the laws `around` and `ahead`. Assumes nothing.
use native.Mathlib.Omega.{arith}
use Rattle.interleaving.proofs.PXKinds.{coded_bytes-le}
use Rattle.queries.proofs.Origins.{step-lt, step_small}
use Rattle.locating.proofs.Counted.{around, ahead}
use Rattle.locating.proofs.WritingsOf.{cell-written}
use Rattle.locating.proofs.locator_px.later.Goals as goal

pub overflow_mul-i : goal.overflow_mul-i
overflow_mul-i c = omega (arith, step_small c.args.kind c.args.n c.args.half c.args.j c.requires.0 c.requires.1 c.requires.2 c.requires.3)

pub overflow_add-i : goal.overflow_add-i
overflow_add-i c = omega (arith, step_small c.args.kind c.args.n c.args.half c.args.j c.requires.0 c.requires.1 c.requires.2 c.requires.3)

pub write_px-c-requires : goal.write_px-c-requires
write_px-c-requires c = (c.requires.0, step-lt c.args.kind c.args.n c.args.half c.args.j c.requires.0 c.requires.1 c.requires.2 c.requires.3)

pub overflow_mul-result : goal.overflow_mul-result
overflow_mul-result c = omega (arith, coded_bytes-le c.args.kind c.requires.0)

pub overflow_add-result : goal.overflow_add-result
overflow_add-result c = omega (arith, coded_bytes-le c.args.kind c.requires.0)

pub overflow_sub-result : goal.overflow_sub-result
overflow_sub-result c =
    omega (arith, step-lt c.args.kind c.args.n c.args.half c.args.j c.requires.0 c.requires.1 c.requires.2 c.requires.3)

pub overflow_add-result-then-c-i : goal.overflow_add-result-then-c-i
overflow_add-result-then-c-i c = omega (arith, coded_bytes-le c.args.kind c.requires.0)

pub returns-then-c-i : goal.returns-then-c-i
returns-then-c-i c =
    let a = c.args in
    let p = c.requires in
    around a.kind a.n a.half a.j p.0 p.1 p.2 p.3 _ (cell-written _ _ c.write_px-c.ensures.0) c.write_px-c.ensures.1 c.if-c-i.true

pub returns : goal.returns
returns c =
    let a = c.args in
    let p = c.requires in
    ahead a.kind a.n a.half a.j p.0 p.1 p.2 p.3 _ (cell-written _ _ c.write_px-c.ensures.0) c.write_px-c.ensures.1 c.if-c-i.false
