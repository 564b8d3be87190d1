-- `pm::gather::put_columns` meets its contract. The loop's invariant: the columns before 4 x are written. Assumes nothing.
use mathlib.Core.Path.{◌≡◌}
use Prim.Native.Nat.{ℕ, ◌≤◌, ◌<◌, ◌+◌, ◌*◌}
use lib.ListN.{length}
use Rattle.transposing.specs.Words.{Begins}
use Rattle.pm.specs.Rows.{nibble_in, ColumnsDone}
use Rattle.pm.proofs.gather.put_columns.Given as goal

abbrev pub invariant-loop-x : goal.invariant-loop-x
invariant-loop-x l =
    (l.x ≤ 9) × (length l.coded ≡ 45680) × (length l.words ≡ 40)
    × ((f : ℕ → ℕ) → ((q : ℕ) → f q < 2) → Begins (nibble_in f l.r) 2880 l.nibbles → ColumnsDone f (36 * l.r) l.initial.coded → ColumnsDone f (36 * l.r + 4 * l.x) l.coded)
