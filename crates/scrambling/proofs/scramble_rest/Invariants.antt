-- `scrambling::scramble_rest` meets its contract. The loop's invariant: the first i bytes are written, and i has not left the word that is given.
-- Assumes nothing.
use Prim.Native.Nat.{◌*◌, ◌/◌, ◌≤◌}
use lib.ListN.{length}
use Rattle.bits.specs.Bits.{bit_at}
use Rattle.bits.proofs.Stores.{Stored}
use Rattle.scrambling.specs.Scrambler.{scrambled}
use Rattle.scrambling.proofs.scramble_rest.Given as goal

abbrev pub invariant-loop-i : goal.invariant-loop-i
invariant-loop-i l =
    Stored (length l.initial.out) (scrambled (bit_at l.frame)) l.out l.i × (length l.out / 4 * 4 ≤ l.i)
