-- `px_lanes::fresh_row` meets its contract. The loop's invariant: the first k bytes of the row are laid out in every block. Assumes nothing.
use mathlib.Core.Path.{◌≡◌}
use mathlib.Core.List.{List}
use Prim.Native.Nat.{ℕ, ◌+◌, ◌*◌, ◌/◌, ◌≤◌}
use lib.ListN.{length}
use Rattle.interleaving.specs.PX.{partitions, coded_bytes}
use Rattle.transposing.specs.Words.{Begins}
use Rattle.px_lanes.specs.Laid.{quad_at, Laid}
use Rattle.px_lanes.proofs.fresh_row.Given as goal

abbrev pub invariant-loop-k : goal.invariant-loop-k
invariant-loop-k v =
    (v.k ≤ v.w) × (length v.px ≡ coded_bytes v.kind)
    × ((l : List ℕ) → Begins (quad_at v.kind l v.r) 144 v.quads → Laid v.kind l (9 * (partitions v.kind / 2) * v.r) v.initial.px → Laid v.kind l (9 * (partitions v.kind / 2) * v.r + v.k) v.px)
