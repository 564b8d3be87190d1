-- `origin` meets its contract: the laws `around` and `behind`. Assumes nothing.
use native.Mathlib.Omega.{arith}
use Rattle.interleaving.proofs.PXKinds.{coded_bytes-le}
use Rattle.queries.proofs.Origins.{step-lt, step_small, around, behind}
use Rattle.queries.proofs.finder_px.origin.Goals as goal

pub overflow_mul-i : goal.overflow_mul-i
overflow_mul-i c =
    let a = c.args in
    let p = c.requires in
    omega (arith, step_small a.kind a.n a.half a.cell p.0 p.1 p.2 p.3)

pub overflow_add-i : goal.overflow_add-i
overflow_add-i c =
    let a = c.args in
    let p = c.requires in
    omega (arith, step_small a.kind a.n a.half a.cell p.0 p.1 p.2 p.3)

pub source-s-requires : goal.source-s-requires
source-s-requires c =
    let a = c.args in
    let p = c.requires in
    (p.0, step-lt a.kind a.n a.half a.cell p.0 p.1 p.2 p.3)

pub returns-then-i-s : goal.returns-then-i-s
returns-then-i-s c =
    let a = c.args in
    let p = c.requires in
    around a.kind a.n a.half a.cell p.0 p.1 p.2 p.3 _ c.source-s.ensures c.if-i-s.true

pub overflow_mul-result : goal.overflow_mul-result
overflow_mul-result c = omega (arith, coded_bytes-le c.args.kind c.requires.0)

pub overflow_add-result-2 : goal.overflow_add-result-2
overflow_add-result-2 c = omega (arith, coded_bytes-le c.args.kind c.requires.0)

pub overflow_sub-result-3 : goal.overflow_sub-result-3
overflow_sub-result-3 c =
    let a = c.args in
    let p = c.requires in
    omega (arith, step-lt a.kind a.n a.half a.cell p.0 p.1 p.2 p.3)

pub returns : goal.returns
returns c =
    let a = c.args in
    let p = c.requires in
    behind a.kind a.n a.half a.cell p.0 p.1 p.2 p.3 _ c.source-s.ensures (omega arith)
