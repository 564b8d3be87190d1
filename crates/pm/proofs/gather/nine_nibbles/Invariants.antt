-- `pm::gather::nine_nibbles` meets its contract. The loop's invariant: x nibbles more are read. Assumes nothing.
use mathlib.Core.Path.{◌≡◌}
use Prim.Native.Nat.{ℕ, ◌≤◌, ◌<◌, ◌+◌, ◌*◌}
use lib.ListN.{length}
use Rattle.bits.specs.Bits.{bit_at, number}
use Rattle.transposing.specs.Words.{Begins}
use Rattle.pm.proofs.gather.nine_nibbles.Given as goal

abbrev pub invariant-loop-x : goal.invariant-loop-x
invariant-loop-x l =
    (l.x ≤ 9) × (length l.out ≡ 2880)
    × ((g : ℕ → ℕ) → ((x : ℕ) → x < 9 → g (9 * l.t + x) ≡ number 4 (λ i. bit_at l.pm (8 * l.n + 4 * (l.odd + x) + i))) → Begins g (9 * l.t) l.initial.out → Begins g (9 * l.t + l.x) l.out)
