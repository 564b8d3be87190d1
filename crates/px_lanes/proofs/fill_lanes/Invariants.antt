-- `px_lanes::fill_lanes` meets its contract. The loop's invariant: the first i entries are found. Assumes nothing.
use mathlib.Core.Path.{◌≡◌}
use Prim.Native.Nat.{◌≤◌}
use lib.ListN.{length}
use Rattle.transposing.specs.Words.{Begins}
use Rattle.px_lanes.specs.Laid.{lane_at}
use Rattle.px_lanes.proofs.fill_lanes.Given as goal

abbrev pub invariant-loop-i : goal.invariant-loop-i
invariant-loop-i l = (l.i ≤ l.n) × (length l.lanes ≡ 1024) × Begins (lane_at l.kind) l.i l.lanes
