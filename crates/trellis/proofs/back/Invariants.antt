-- `trellis::back` meets its contract. The loop's invariant: the scores are those before step k, and those after each step from there on are kept. Assumes nothing.
use mathlib.Core.Path.{◌≡◌}
use Prim.Native.Nat.{ℕ, ◌<◌, ◌≤◌, ◌-◌}
use lib.ListN.{length, get_or}
use Rattle.trellis.specs.Trellis.{tabled, Scored, Kept}
use Rattle.trellis.proofs.back.Given as goal

abbrev pub invariant-loop-k : goal.invariant-loop-k
invariant-loop-k l =
    (l.k ≤ 80)
    × (l.s.step ≡ l.k)
    × (length l.kept ≡ 5120)
    × ((final : ℕ → ℕ) → ((q : ℕ) → q < 64 → get_or l.initial.s.scores q 0 ≡ final q) → Scored (tabled l.costs) final (80 - l.k) l.s × Kept (tabled l.costs) final l.k l.kept)
