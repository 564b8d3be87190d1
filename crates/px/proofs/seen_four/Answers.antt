-- `px::seen_four` meets its contract. Assumes nothing.
use native.Mathlib.Omega.{arith}
use Rattle.px_steps.proofs.Residues.{size-le}
use Rattle.px.proofs.Merging.{seen-four}
use Rattle.px.proofs.seen_four.Goals as goal

pub overflow_add-x : goal.overflow_add-x
overflow_add-x c = omega (arith, c.requires.1, size-le c.args.kind c.requires.0)

pub overflow_add-x-2 : goal.overflow_add-x-2
overflow_add-x-2 c = omega (arith, c.requires.1, size-le c.args.kind c.requires.0)

pub overflow_add-x-3 : goal.overflow_add-x-3
overflow_add-x-3 c = omega (arith, c.requires.1, size-le c.args.kind c.requires.0)

pub returns : goal.returns
returns c =
    let a = c.seen_bit-a.ensures in
    let b = c.seen_bit-b.ensures in
    let third = c.seen_bit-c.ensures in
    let d = c.seen_bit.ensures in
    let x = c.args.x in
    (seen-four c.args.kind x _ _ _ _ a.0 b.0 third.0 d.0, omega (arith, a.1, b.1, third.1, d.1))
