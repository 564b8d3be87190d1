-- `px_steps::step_of` meets its contract. Assumes nothing.
use mathlib.Core.Path.{refl}
use native.Mathlib.Omega.{arith}
use Rattle.interleaving.proofs.PXKinds.{coded_bytes-le}
use Rattle.interleaving.proofs.Steps.{step_of-lt}
use Rattle.px_steps.proofs.step_of.Goals as goal

pub overflow_mul-result : goal.overflow_mul-result
overflow_mul-result c =
    let a = c.args in
    let pre = c.requires in
    rw c.coded_bits.ensures.0
    (omega (arith, step_of-lt a.kind a.half a.j pre.1 pre.2, coded_bytes-le a.kind pre.0))

pub overflow_add-result : goal.overflow_add-result
overflow_add-result c =
    let a = c.args in
    let pre = c.requires in
    rw c.coded_bits.ensures.0
    (omega (arith, step_of-lt a.kind a.half a.j pre.1 pre.2, coded_bytes-le a.kind pre.0))

pub returns : goal.returns
returns c =
    let a = c.args in
    let pre = c.requires in
    rw c.coded_bits.ensures.0 (refl, step_of-lt a.kind a.half a.j pre.1 pre.2)
