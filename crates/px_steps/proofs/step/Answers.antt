-- `px_steps::step` meets its contract: it is `index` as it stands. Assumes nothing.
use mathlib.Core.Path.{◌≡◌}
use Prim.Native.Nat.{◌+◌, ◌-◌, ◌*◌, ◌/◌, ◌%◌, ◌^◌, ◌≤◌, ◌<◌}
use native.Mathlib.Omega.{arith}
use lib.Bits.{bit_and}
use Rattle.interleaving.specs.InverseIV.{index}
use Rattle.interleaving.specs.PX.{partitions, runs}
use Rattle.interleaving.proofs.SlotsIV.{with-offset}
use Rattle.interleaving.proofs.PXKinds.{kind-is}
use Rattle.px_steps.proofs.Words.{bits-of-M, mask-of-M, step_fits}
use Rattle.px_steps.proofs.step.Goals as goal

-- the quotient by the shift, and the remainder by the mask
quotient_is : (c : goal.After-partitions)
    → let a = c.args in
    (a.n + c.missed.result) / 2 ^ (2 - a.kind) ≡ (a.n + c.missed.result) / runs a.kind
quotient_is c = rw (bits-of-M c.args.kind c.requires.0)

rest-is : (c : goal.After-partitions)
    → let a = c.args in
    let rest = bit_and (a.n + c.missed.result) (c.runs-m.result - 1) in
    (rest ≡ (a.n + c.missed.result) % runs a.kind) × (rest < 4)
rest-is c =
    let a = c.args in
    mask-of-M a.kind c.requires.0 (a.n + c.missed.result) _ c.runs-m.ensures.0

-- the products are small
fits : (c : goal.After-partitions)
    → let a = c.args in
    let q = (a.n + c.missed.result) / 2 ^ (2 - a.kind) in
    (q * c.partitions.result ≤ 147464) × ((q * c.partitions.result + a.p) * c.runs-m.result ≤ 589872)
fits c =
    let entry = c in
    let a = entry.args in
    step_fits a.kind entry.requires.0 a.p (a.n + c.missed.result) _ _ _ entry.requires.1 (omega arith)
    (quotient_is c) c.partitions.ensures.0 c.runs-m.ensures.0

pub overflow_mul-result : goal.overflow_mul-result
overflow_mul-result c = omega (arith, fits c)

pub overflow_add-result : goal.overflow_add-result
overflow_add-result c = omega (arith, fits c)

pub overflow_mul-result-2 : goal.overflow_mul-result-2
overflow_mul-result-2 c = omega (arith, fits c)

pub overflow_add-result-2 : goal.overflow_add-result-2
overflow_add-result-2 c = omega (arith, fits c, (rest-is c).1)

pub overflow_sub-result-2 : goal.overflow_sub-result-2
overflow_sub-result-2 c =
    let a = c.args in
    rw (
      (rest-is c).0,
      quotient_is c,
      c.missed.ensures.0,
      c.partitions.ensures.0,
      c.runs-m.ensures.0,
    )
    (omega (arith, with-offset (partitions a.kind) (runs a.kind) a.p a.n (kind-is a.kind c.requires.0).J-pos))

pub returns : goal.returns
unfolding index
returns c =
    rw (
      (rest-is c).0,
      quotient_is c,
      c.missed.ensures.0,
      c.partitions.ensures.0,
      c.runs-m.ensures.0,
    )
