-- `pm::scatter::write_row` meets its contract. The loop's invariant: the first i pairs of partitions of the row are written. Assumes nothing.
use mathlib.Core.Path.{◌≡◌}
use Prim.Native.Nat.{ℕ, ◌≤◌}
use lib.ListN.{length}
use Rattle.transposing.specs.Words.{Begins}
use Rattle.pm.specs.Rows.{nibble_for, RowsDone}
use Rattle.pm.proofs.RowLaws.{PairsDone}
use Rattle.pm.proofs.scatter.write_row.Given as goal

abbrev pub invariant-loop-i : goal.invariant-loop-i
invariant-loop-i l =
    (l.i ≤ 160) × (length l.pm ≡ 46080) × ((f : ℕ → ℕ) → Begins (nibble_for f l.r) 2880 l.nibbles → RowsDone f l.r l.initial.pm → PairsDone f l.r l.i l.pm)
