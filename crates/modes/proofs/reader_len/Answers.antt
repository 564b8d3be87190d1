-- `reader_len` meets its contract. Assumes nothing.
use Prim.Native.Nat.{◌<◌}
use native.Mathlib.Omega.{arith}
use Rattle.runs.specs.declared.Kind.{Kind}
use Rattle.runs.specs.declared.Kind.TheVariants.{Unused, Narrow, Wide}
use Rattle.runs.specs.Lengths.{matrix_len}
use Rattle.modes.proofs.reader_len.Goals as goal

small : (k : Kind) → matrix_len k < 10000
small Unused = omega arith
small Narrow = omega arith
small Wide = omega arith

pub overflow_mul-result : goal.overflow_mul-result
overflow_mul-result c = omega (arith, c.matrix_len.ensures, small c.args.kind)
