-- `px_steps::byte_of` meets its contract. Assumes nothing.
use mathlib.Core.Path.{ap}
use Prim.Native.Nat.{ℕ, ◌+◌, ◌*◌, ◌≤◌}
use native.Mathlib.Nat.{mul-le-mul_right}
use native.Mathlib.Omega.{arith}
use Rattle.px_steps.proofs.Words.{half-fits, byte_fits}
use Rattle.px_steps.proofs.byte_of.Goals as goal

pub overflow_mul-result : goal.overflow_mul-result
overflow_mul-result c = half-fits _ _ (omega (arith, c.requires)) c.coded_bytes.ensures.1

pub overflow_add-result : goal.overflow_add-result
overflow_add-result c = byte_fits _ _ _ (omega (arith, c.requires)) c.coded_bytes.ensures.1 (omega (arith, c.requires.2, c.coded_bytes.ensures))

pub returns : goal.returns
returns c =
    let a = c.args in
    let n = c.coded_bytes.result in
    let before : a.half * n ≤ 1 * n = mul-le-mul_right n (let h : a.half ≤ 1 = omega (arith, c.requires.1) in h) in
    (ap (λ (w : ℕ). a.half * w + a.j) c.coded_bytes.ensures.0, omega (arith, c.requires.2, c.coded_bytes.ensures.0))
