-- `pm::gather::copy_column` meets its contract. The loop's invariant: j bytes are written. Assumes nothing.
use mathlib.Core.Path.{◌≡◌}
use Prim.Native.Nat.{ℕ, ◌≤◌, ◌<◌, ◌+◌}
use lib.ListN.{length, get_or}
use Rattle.transposing.specs.Words.{quad}
use Rattle.pm.specs.Rows.{Changed}
use Rattle.pm.proofs.gather.copy_column.Given as goal

abbrev pub invariant-loop-j : goal.invariant-loop-j
invariant-loop-j l =
    (l.j ≤ 40) × (length l.coded ≡ length l.initial.coded)
    × ((g : ℕ → ℕ) (f : ℕ → ℕ → ℕ) → ((j u : ℕ) → f j u < 256) → ((j : ℕ) → j < 40 → get_or l.words j 0 ≡ quad (f j))
    → ((j : ℕ) → j < 40 → g (l.n + j) ≡ f j l.i) → Changed l.n (l.n + l.j) g l.initial.coded l.coded)
