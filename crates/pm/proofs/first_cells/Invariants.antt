-- `pm::first_cells` meets its contract. The loop's invariant: the first t cells are found. Assumes nothing.
use mathlib.Core.Path.{◌≡◌}
use Prim.Native.Nat.{ℕ, ◌≤◌, ◌<◌}
use lib.ListN.{length, get_or}
use Rattle.interleaving.specs.PM.{p1_place}
use Rattle.pm.proofs.first_cells.Given as goal

abbrev pub invariant-loop-t : goal.invariant-loop-t
invariant-loop-t l = (l.t ≤ 320) × (length l.cells ≡ 320) × ((s : ℕ) → s < l.t → get_or l.cells s 0 ≡ p1_place s)
