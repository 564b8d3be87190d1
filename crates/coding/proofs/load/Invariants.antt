-- `coding::load` meets its contract. The loop's invariant: the word holds the bits of k bytes. Assumes nothing.
use mathlib.Core.Path.{◌≡◌}
use Prim.Native.Nat.{◌≤◌, ◌+◌, ◌*◌}
use Rattle.bits.specs.Bits.{bit_at, number}
use Rattle.coding.proofs.load.Given as goal

abbrev pub invariant-loop-k : goal.invariant-loop-k
invariant-loop-k l = (l.k ≤ l.m) × (l.word ≡ number (8 * l.k) (λ i. bit_at l.bytes (8 * l.j + i)))
