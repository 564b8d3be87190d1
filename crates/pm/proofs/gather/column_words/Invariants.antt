-- `pm::gather::column_words` meets its contract. The loop's invariant: j words are made. Assumes nothing.
use mathlib.Core.Path.{◌≡◌}
use Prim.Native.Nat.{ℕ, ◌≤◌, ◌<◌}
use lib.ListN.{length}
use Rattle.transposing.specs.Words.{Begins}
use Rattle.pm.specs.Rows.{nibble_in, word_in}
use Rattle.pm.proofs.gather.column_words.Given as goal

abbrev pub invariant-loop-j : goal.invariant-loop-j
invariant-loop-j l =
    (l.j ≤ 40) × (length l.words ≡ 40) × ((f : ℕ → ℕ) (r : ℕ) → ((c : ℕ) → f c < 2) → Begins (nibble_in f r) 2880 l.nibbles → Begins (word_in f r l.x) l.j l.words)
