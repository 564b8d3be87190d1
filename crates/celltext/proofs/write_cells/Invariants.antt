-- `celltext::write_cells` meets its contract. The loop's invariant: the first i cells are written. Assumes nothing.
use mathlib.Core.Path.{◌≡◌}
use Prim.Native.Nat.{ℕ, ◌<◌, ◌≤◌}
use lib.ListN.{length, get_or}
use Rattle.celltext.specs.Lines.{cell_of}
use Rattle.celltext.proofs.write_cells.Given as goal

abbrev pub invariant-loop-i : goal.invariant-loop-i
invariant-loop-i l = (l.i ≤ 200) × (length l.cells ≡ 200) × ((n : ℕ) → n < l.i → get_or l.cells n 0 ≡ cell_of (get_or l.line n 0))
