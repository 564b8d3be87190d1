-- `pm::gather::put_four` meets its contract. The loop's invariant: the first i columns are written. Assumes nothing.
use mathlib.Core.Path.{◌≡◌}
use Prim.Native.Nat.{ℕ, ◌≤◌, ◌<◌, ◌+◌, ◌*◌}
use lib.ListN.{length}
use Rattle.transposing.specs.Words.{Begins}
use Rattle.pm.specs.Rows.{word_in, ColumnsDone}
use Rattle.pm.proofs.gather.put_four.Given as goal

abbrev pub invariant-loop-i : goal.invariant-loop-i
invariant-loop-i l =
    (l.i ≤ 4) × (length l.coded ≡ 45680)
    × ((f : ℕ → ℕ) → ((q : ℕ) → f q < 2) → Begins (word_in f l.r l.x) 40 l.words → ColumnsDone f (36 * l.r + 4 * l.x) l.initial.coded → ColumnsDone f (36 * l.r + (4 * l.x + l.i)) l.coded)
