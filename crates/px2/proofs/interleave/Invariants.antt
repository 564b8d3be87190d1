-- `px2::interleave` meets its contract. The loop's invariant: the rows before y are written. Assumes nothing.
use mathlib.Core.Path.{◌≡◌}
use Prim.Native.Nat.{◌≤◌, ◌+◌, ◌*◌}
use lib.ListN.{length}
use Rattle.bits.specs.Bits.{bit_at}
use Rattle.px2.specs.Places.{byte_in, Changed}
use Rattle.px2.proofs.interleave.Given as goal

abbrev pub invariant-loop-y : goal.invariant-loop-y
invariant-loop-y l =
    (l.y ≤ 64) × (length l.px2 ≡ length l.initial.px2) × Changed l.first (18 * ((l.row + 1) * l.y)) (byte_in l.row (bit_at l.coded)) l.initial.px2 l.px2
