-- `trellis::through` meets its contract. Assumes nothing.
use Prim.Native.Nat.{◌%◌}
use native.Mathlib.Omega.{arith}
use Rattle.trellis.proofs.through.Goals as goal

pub overflow_add-result : goal.overflow_add-result
overflow_add-result c = omega (arith, c.requires.2 c.args.j c.args.w c.requires.0 c.requires.1, c.requires.3 (c.args.w % 64) (omega arith))
