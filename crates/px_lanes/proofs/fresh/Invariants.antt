-- `px_lanes::fresh` meets its contract. The loop's invariant: the first r rows of every block are laid out. Assumes nothing.
use mathlib.Core.Path.{◌≡◌}
use Prim.Native.Nat.{◌*◌, ◌/◌, ◌≤◌}
use lib.ListN.{length}
use Rattle.interleaving.specs.PX.{partitions, coded_bytes}
use Rattle.px_lanes.specs.Laid.{Laid}
use Rattle.px_lanes.proofs.fresh.Given as goal

abbrev pub invariant-loop-r : goal.invariant-loop-r
invariant-loop-r l =
    (l.r ≤ 32) × (length l.px ≡ coded_bytes l.kind) × (length l.quads ≡ 144) × Laid l.kind l.coded (9 * (partitions l.kind / 2) * l.r) l.px
