-- `scrambling::scramble_words` meets its contract. The loop's invariant: the first w words are written, and the ring has the words of the
-- sequence from w on. Assumes nothing.
use mathlib.Core.Path.{◌≡◌}
use Prim.Native.Nat.{◌*◌}
use lib.ListN.{length}
use Rattle.bits.specs.Bits.{bit_at}
use Rattle.bits.proofs.Stores.{Stored}
use Rattle.scrambling.specs.Scrambler.{scrambled}
use Rattle.scrambling.specs.Words.{Ahead}
use Rattle.scrambling.proofs.scramble_words.Given as goal

abbrev pub invariant-loop-w : goal.invariant-loop-w
invariant-loop-w l =
    Stored (length l.initial.out) (scrambled (bit_at l.frame)) l.out (4 * l.w) × Ahead l.ring l.w × (length l.ring ≡ 16)
