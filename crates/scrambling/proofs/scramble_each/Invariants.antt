-- `scrambling::scramble_each` meets its contract. The loop's invariant: the first a bytes are written, and a frame starts at a unless nothing is left.
-- The measure is what is left of the length. Assumes nothing.
use mathlib.Core.Path.{◌≡◌}
use Prim.Native.Nat.{◌%◌, ◌-◌, ◌*◌, ◌<◌}
use lib.ListN.{length}
use Rattle.bits.specs.Bits.{bit_at}
use Rattle.bits.proofs.Stores.{Stored}
use Rattle.scrambling.specs.Scrambler.{scrambled_each}
use Rattle.scrambling.proofs.scramble_each.Given as goal

abbrev pub invariant-loop-a : goal.invariant-loop-a
invariant-loop-a l =
    Stored (length l.initial.out) (scrambled_each (8 * l.n) (bit_at l.frames)) l.out l.a × (l.a < length l.out → l.a % l.n ≡ 0)

abbrev pub decreases-loop-a : goal.decreases-loop-a
decreases-loop-a l = length l.out - l.a
