-- `trellis::follow` meets its contract. The loop's invariant: j bits are written, and r is the register after them. Assumes nothing.
use mathlib.Core.Path.{◌≡◌}
use Prim.Native.Nat.{ℕ, ◌<◌, ◌≤◌}
use lib.ListN.{length}
use Rattle.bits.specs.Bits.{Bytes, bit_at, written}
use Rattle.trellis.specs.Trellis.{tabled, Kept, walked, walk}
use Rattle.trellis.proofs.follow.Given as goal

abbrev pub invariant-loop-j : goal.invariant-loop-j
invariant-loop-j l =
    (l.j ≤ 80)
    × (l.r < 64)
    × (length l.out ≡ 10)
    × Bytes l.out
    × ((final : ℕ → ℕ) → Kept (tabled l.costs) final 0 l.kept
    → (l.r ≡ walked (tabled l.costs) final l.e l.j) × (bit_at l.out ≡ written (λ i. i) (walk (tabled l.costs) final l.e) l.j (bit_at l.initial.out)))
