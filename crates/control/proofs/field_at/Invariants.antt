-- `control::field_at` meets its contract. The loop's invariant: the bits so far are in x. Assumes nothing.
use mathlib.Core.Path.{◌≡◌}
use Prim.Native.Nat.{◌+◌}
use Rattle.bits.specs.Bits.{number}
use Rattle.control.specs.Words.{decoded}
use Rattle.control.proofs.field_at.Given as goal

abbrev pub invariant-loop-i : goal.invariant-loop-i
invariant-loop-i l = l.x ≡ number l.i (λ i. decoded l.block (l.row + i))
