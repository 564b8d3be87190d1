-- `px2::row_nibbles` meets its contract. The loop's invariant: the nibbles of 4 x places are written. Assumes nothing.
use mathlib.Core.Path.{◌≡◌}
use Prim.Native.Nat.{◌≤◌, ◌*◌}
use lib.ListN.{length}
use Rattle.bits.specs.Bits.{bit_at}
use Rattle.transposing.specs.Words.{Begins}
use Rattle.px2.specs.Places.{row_of}
use Rattle.px2.proofs.row_nibbles.Given as goal

abbrev pub invariant-loop-x : goal.invariant-loop-x
invariant-loop-x l = (l.x ≤ 9) × (length l.out ≡ length l.initial.out) × Begins (row_of l.m (bit_at l.coded) l.starts l.a) (8 * (l.m * l.x)) l.out
