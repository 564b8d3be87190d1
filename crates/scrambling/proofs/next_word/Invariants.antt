-- `scrambling::next_word` meets its contract. The loop's invariant: after k turns the word holds k bits of the sequence, wherever the register stood in it.
-- Assumes nothing.
use mathlib.Core.Path.{◌≡◌}
use Prim.Native.Nat.{ℕ, ◌≤◌, ◌<◌, ◌+◌, ◌^◌}
use Rattle.bits.specs.Bits.{number}
use Rattle.scrambling.specs.Scrambler.{register, sequence}
use Rattle.scrambling.proofs.next_word.Given as goal

abbrev pub invariant-loop-k : goal.invariant-loop-k
invariant-loop-k l =
    (l.k ≤ 32) × (l.r < 2048) × (l.bits < 2 ^ l.k) × ((n : ℕ) → l.reg ≡ register n → (l.bits ≡ number l.k (λ i. sequence (n + i))) × (l.r ≡ register (n + l.k)))
