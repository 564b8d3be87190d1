-- `trellis::step` meets its contract. The loop's invariant: the first r scores of each half are found. Assumes nothing.
use mathlib.Core.Path.{◌≡◌}
use Prim.Native.Nat.{ℕ, ◌+◌, ◌<◌, ◌≤◌}
use lib.ListN.{length, get_or}
use Rattle.trellis.specs.Trellis.{score_before}
use Rattle.trellis.proofs.step.Given as goal

abbrev pub invariant-loop-r : goal.invariant-loop-r
invariant-loop-r l =
    (l.r ≤ 32)
    × (length l.scores ≡ 64)
    × ((q : ℕ) → q < l.r → (get_or l.scores q 0 ≡ score_before l.costs l.j l.late q) × (get_or l.scores (q + 32) 0 ≡ score_before l.costs l.j l.late (q + 32)))
