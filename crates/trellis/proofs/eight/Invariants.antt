-- `trellis::eight` meets its contract. The loop's invariant: the first y costs are found. Assumes nothing.
use mathlib.Core.Path.{◌≡◌}
use Prim.Native.Nat.{ℕ, ◌<◌, ◌≤◌}
use lib.ListN.{length, get_or}
use Rattle.trellis.specs.Trellis.{cost_by}
use Rattle.trellis.proofs.eight.Given as goal

abbrev pub invariant-loop-y : goal.invariant-loop-y
invariant-loop-y l = (l.y ≤ 8) × (length l.costs ≡ 8) × ((q : ℕ) → q < l.y → get_or l.costs q 0 ≡ cost_by l.cells l.j q)
