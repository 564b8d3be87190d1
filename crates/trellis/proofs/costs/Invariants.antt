-- `trellis::costs` meets its contract. The loop's invariant: the costs of the first j steps are found. Assumes nothing.
use mathlib.Core.Path.{◌≡◌}
use Prim.Native.Nat.{ℕ, ◌<◌, ◌≤◌}
use lib.ListN.{length}
use Rattle.trellis.specs.Trellis.{cost, tabled}
use Rattle.trellis.proofs.costs.Given as goal

abbrev pub invariant-loop-j : goal.invariant-loop-j
invariant-loop-j l =
    (l.j ≤ 80) × (length l.table ≡ 10240) × ((i w : ℕ) → i < l.j → w < 128 → tabled l.table i w ≡ cost l.cells i w)
