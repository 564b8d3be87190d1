-- `scrambling::first_words` meets its contract. The loop's invariant: the first w words stand in the ring, and the register is the one after them.
-- Assumes nothing.
use mathlib.Core.Path.{◌≡◌}
use Prim.Native.Nat.{ℕ, ◌*◌, ◌≤◌, ◌<◌}
use lib.ListN.{length, get_or}
use Rattle.scrambling.specs.Scrambler.{register}
use Rattle.scrambling.specs.Words.{word_of}
use Rattle.scrambling.proofs.first_words.Given as goal

abbrev pub invariant-loop-w : goal.invariant-loop-w
invariant-loop-w l =
    (length l.ring ≡ 16) × (l.w ≤ 11) × (l.reg < 2048) × (l.reg ≡ register (32 * l.w)) × ((q : ℕ) → q < l.w → get_or l.ring q 0 ≡ word_of q)
