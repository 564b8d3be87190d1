-- `word_at` meets its contract: two bytes fit. Assumes nothing.
use native.Mathlib.Omega.{arith}
use Prim.Native.Nat.{◌+◌}
use Rattle.layout.proofs.headers.word_at.Goals as goal

pub overflow_mul-result : goal.overflow_mul-result
overflow_mul-result c =
    omega
    (arith, c.from-high.ensures, c.from-low.ensures, c.shared_slice_known-1.given c.args.at, c.shared_slice_known-1.given (c.args.at + 1))

pub overflow_add-result : goal.overflow_add-result
overflow_add-result c =
    omega
    (arith, c.from-high.ensures, c.from-low.ensures, c.shared_slice_known-1.given c.args.at, c.shared_slice_known-1.given (c.args.at + 1))
