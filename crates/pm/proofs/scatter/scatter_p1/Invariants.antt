-- `pm::scatter::scatter_p1` meets its contract. The loop's invariant: the rows before row r of every block are written. Assumes nothing.
use mathlib.Core.Path.{◌≡◌}
use Prim.Native.Nat.{◌≤◌}
use lib.ListN.{length}
use Rattle.bits.specs.Bits.{bit_at}
use Rattle.pm.specs.Rows.{RowsDone}
use Rattle.pm.proofs.scatter.scatter_p1.Given as goal

abbrev pub invariant-loop-r : goal.invariant-loop-r
invariant-loop-r l = (l.r ≤ 32) × (length l.pm ≡ 46080) × (length l.nibbles ≡ 2880) × RowsDone (bit_at l.coded) l.r l.pm
