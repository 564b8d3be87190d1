-- `celltext::put_hexadecimal` meets its contract. The loop's invariant: the first i bytes are put. Assumes nothing.
use Prim.Native.Nat.{◌*◌, ◌≤◌}
use lib.ListN.{length, take}
use Rattle.text.specs.Put.{Put}
use Rattle.celltext.specs.Found.{hexadecimal}
use Rattle.celltext.proofs.put_hexadecimal.Given as goal

abbrev pub invariant-loop-b : goal.invariant-loop-b
invariant-loop-b l = (l.b-index ≤ length l.bytes) × Put l.initial.out l.out l.at l.end (2 * l.b-index) (hexadecimal (take l.b-index l.bytes))
