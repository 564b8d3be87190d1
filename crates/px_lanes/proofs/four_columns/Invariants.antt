-- `px_lanes::four_columns` meets its contract. The loop's invariant: the columns of the first d blocks are summed. Assumes nothing.
use mathlib.Core.Path.{◌≡◌}
use Prim.Native.Nat.{◌+◌, ◌*◌, ◌≤◌}
use lib.ListN.{length}
use Rattle.transposing.specs.Words.{Begins}
use Rattle.px_lanes.specs.Laid.{quad_at}
use Rattle.px_lanes.proofs.four_columns.Given as goal

abbrev pub invariant-loop-d : goal.invariant-loop-d
invariant-loop-d l =
    (l.d ≤ 16) × (length l.quads ≡ 144) × (Begins (quad_at l.kind l.coded l.r) (16 * l.z) l.initial.quads → Begins (quad_at l.kind l.coded l.r) (16 * l.z + l.d) l.quads)
