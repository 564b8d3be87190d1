-- `restoring::follow` meets its contract. The loop's invariant: j bits are written, r is the register after them, and the path forked nowhere. Assumes nothing.
use mathlib.Core.Path.{◌≡◌}
use Prim.Native.Nat.{ℕ, ◌<◌, ◌≤◌}
use lib.ListN.{length}
use Rattle.bits.specs.Bits.{Bytes, bit_at, written}
use Rattle.restoring.specs.Reaching.{gone, went, zeros, Fork}
use Rattle.restoring.proofs.follow.Given as goal

abbrev pub invariant-loop-j : goal.invariant-loop-j
invariant-loop-j l =
    (l.j ≤ 80)
    × (l.r < 64)
    × (length l.out ≡ 10)
    × Bytes l.out
    × (l.r ≡ gone l.cells l.e zeros l.j)
    × (bit_at l.out ≡ written (λ i. i) (went l.cells l.e zeros) l.j (bit_at l.initial.out))
    × ((i : ℕ) → i < l.j → Fork l.cells l.e i → ⊥)
