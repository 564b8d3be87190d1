-- `px::seen_half` meets its contract: the law `seen-by-near`. Assumes nothing.
use native.Mathlib.Omega.{arith}
use Rattle.px_steps.proofs.Residues.{size-le}
use Rattle.px.proofs.Merging.{seen-by-near}
use Rattle.px.proofs.seen_half.Goals as goal

pub overflow_mul-v : goal.overflow_mul-v
overflow_mul-v c = omega (arith, c.requires.1, size-le c.args.kind c.requires.0)

pub returns : goal.returns
returns c =
    let a = c.args in
    let pre = c.requires in
    (seen-by-near a.kind a.v a.a _ pre.0 pre.1 pre.3 pre.4 c.if-q-eq0.false c.near_half.ensures.0, c.near_half.ensures.1)
