-- `pm::scatter::row_nibbles` meets its contract. The loop's invariant: the nibbles of 4 x columns are written. Assumes nothing.
use mathlib.Core.Path.{◌≡◌}
use Prim.Native.Nat.{◌≤◌, ◌*◌}
use lib.ListN.{length}
use Rattle.bits.specs.Bits.{bit_at}
use Rattle.transposing.specs.Words.{Begins}
use Rattle.pm.specs.Rows.{nibble_for}
use Rattle.pm.proofs.scatter.row_nibbles.Given as goal

abbrev pub invariant-loop-x : goal.invariant-loop-x
invariant-loop-x l = (l.x ≤ 9) × (length l.out ≡ length l.initial.out) × Begins (nibble_for (bit_at l.coded) l.r) (320 * l.x) l.out
