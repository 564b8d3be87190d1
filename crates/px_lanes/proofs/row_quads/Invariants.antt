-- `px_lanes::row_quads` meets its contract. The loop's invariant: the first 4 z columns are summed. Assumes nothing.
use mathlib.Core.Path.{◌≡◌}
use Prim.Native.Nat.{◌*◌, ◌≤◌}
use lib.ListN.{length}
use Rattle.transposing.specs.Words.{Begins}
use Rattle.px_lanes.specs.Laid.{quad_at}
use Rattle.px_lanes.proofs.row_quads.Given as goal

abbrev pub invariant-loop-z : goal.invariant-loop-z
invariant-loop-z l = (l.z ≤ 9) × (length l.quads ≡ 144) × Begins (quad_at l.kind l.coded l.r) (16 * l.z) l.quads
