-- `trellis::scored` meets its contract. The loop's invariant: the scores are those before step k. Assumes nothing.
use mathlib.Core.Path.{◌≡◌}
use Prim.Native.Nat.{ℕ, ◌<◌, ◌≤◌, ◌-◌}
use lib.ListN.{get_or}
use Rattle.trellis.specs.Trellis.{tabled, Scored}
use Rattle.trellis.proofs.scored.Given as goal

abbrev pub invariant-loop-k : goal.invariant-loop-k
invariant-loop-k l =
    (l.k ≤ 80)
    × (l.s.step ≡ l.k)
    × ((final : ℕ → ℕ) → ((q : ℕ) → q < 64 → get_or l.initial.s.scores q 0 ≡ final q) → Scored (tabled l.costs) final (80 - l.k) l.s)
