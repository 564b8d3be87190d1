-- `frames_size` meets its contract. Assumes nothing.
use mathlib.Core.Path.{ap}
use native.Mathlib.Nat.{mul-le-mul}
use native.Mathlib.Omega.{arith}
use Prim.Native.Nat.{ℕ, ◌*◌}
use Rattle.sheetinputs.proofs.inputs.frames_size.Goals as goal

pub overflow_mul-result : goal.overflow_mul-result
overflow_mul-result c =
    omega (arith, mul-le-mul {n₁ = c.args.count} {m₁ = c.frame_size-n.result} c.requires.2 c.frame_size-n.ensures.1)

pub returns : goal.returns
returns c = ap (λ (k : ℕ). c.args.count * k) c.frame_size-n.ensures.0
