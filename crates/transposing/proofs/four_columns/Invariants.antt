-- `transposing::four_columns` meets its contract. The loop's invariant: the nibbles of 8 j bits more are written. Assumes nothing.
use mathlib.Core.Path.{◌≡◌}
use Prim.Native.Nat.{ℕ, ◌≤◌, ◌<◌, ◌+◌, ◌*◌}
use lib.ListN.{length}
use Rattle.bits.specs.Bits.{bit_at}
use Rattle.transposing.specs.Words.{Begins}
use Rattle.transposing.proofs.four_columns.Given as goal

abbrev pub invariant-loop-j : goal.invariant-loop-j
invariant-loop-j l =
    (l.j ≤ l.m) × (length l.out ≡ length l.initial.out)
    × ((g : ℕ → ℕ) → ((q : ℕ) → g q < 256)
    → ((t : ℕ) → t < 8 * l.m → g (l.n + t) ≡ 8 * bit_at l.coded (8 * l.a + t) + 4 * bit_at l.coded (8 * l.b + t) + 2 * bit_at l.coded (8 * l.c + t) + bit_at l.coded (8 * l.d + t))
    → Begins g l.n l.initial.out → Begins g (l.n + 8 * l.j) l.out)
