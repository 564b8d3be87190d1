-- `pm::gather::gather_p1` meets its contract. The loop's invariant: the columns of the rows before row r are read. Assumes nothing.
use mathlib.Core.Path.{◌≡◌}
use Prim.Native.Nat.{◌≤◌, ◌*◌}
use lib.ListN.{length}
use Rattle.bits.specs.Bits.{bit_at}
use Rattle.pm.specs.Rows.{ColumnsDone}
use Rattle.pm.proofs.gather.gather_p1.Given as goal

abbrev pub invariant-loop-r : goal.invariant-loop-r
invariant-loop-r l =
    (l.r ≤ 32) × (length l.coded ≡ 45680) × (length l.nibbles ≡ 2880) × ColumnsDone (bit_at l.pm) (36 * l.r) l.coded
