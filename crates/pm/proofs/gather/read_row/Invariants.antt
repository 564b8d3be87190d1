-- `pm::gather::read_row` meets its contract. The loop's invariant: the nibbles of the first t numbers are read. Assumes nothing.
use mathlib.Core.Path.{◌≡◌}
use Prim.Native.Nat.{◌≤◌, ◌*◌}
use lib.ListN.{length}
use Rattle.bits.specs.Bits.{bit_at}
use Rattle.transposing.specs.Words.{Begins}
use Rattle.pm.specs.Rows.{nibble_in}
use Rattle.pm.proofs.gather.read_row.Given as goal

abbrev pub invariant-loop-t : goal.invariant-loop-t
invariant-loop-t l = (l.t ≤ 320) × (length l.out ≡ 2880) × Begins (nibble_in (bit_at l.pm) l.r) (9 * l.t) l.out
