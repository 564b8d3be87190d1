-- `start_of` meets its contract. Assumes nothing.
use native.Mathlib.Nat.{mul-le-mul}
use native.Mathlib.Omega.{arith}
use Rattle.sheetworks.proofs.Parts.{past_bytes}
use Rattle.sheetworks.proofs.start_of.Goals as goal

pub returns-then-from-n : goal.returns-then-from-n
returns-then-from-n c = (omega arith, past_bytes c.args.from c.args.size c.args.n c.requires.0 c.if-from-n.true)

pub overflow_mul-start : goal.overflow_mul-start
overflow_mul-start c =
    omega (arith, mul-le-mul {n₁ = c.args.from} {m₁ = c.args.size} {n₂ = 4294967296} {m₂ = 65536} (omega (arith, c.if-from-n.false, c.requires.2)) c.requires.1)
