-- `celltext::are_cells` meets its contract. The loop's invariant: the first i characters stand for cells. Assumes nothing.
use mathlib.Core.Path.{◌≡◌}
use mathlib.Core.Bool.{true}
use Prim.Native.Nat.{ℕ, ◌<◌, ◌≤◌}
use lib.ListN.{get_or}
use Rattle.celltext.specs.Lines.{is_cell}
use Rattle.celltext.proofs.are_cells.Given as goal

abbrev pub invariant-loop-b : goal.invariant-loop-b
invariant-loop-b l = (l.b-index ≤ 200) × ((n : ℕ) → n < l.b-index → is_cell (get_or l.line n 0) ≡ true)
