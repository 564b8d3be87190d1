-- `transposing::store_word` meets its contract. The loop's invariant: u bytes more are written. Assumes nothing.
use mathlib.Core.Path.{◌≡◌}
use Prim.Native.Nat.{ℕ, ◌≤◌, ◌<◌, ◌+◌}
use lib.ListN.{length}
use Rattle.transposing.specs.Words.{Begins, eight}
use Rattle.transposing.proofs.store_word.Given as goal

abbrev pub invariant-loop-u : goal.invariant-loop-u
invariant-loop-u l =
    (l.u ≤ 8) × (length l.out ≡ length l.initial.out)
    × ((g : ℕ → ℕ) → l.w ≡ eight (λ u. g (l.n + u)) → ((q : ℕ) → g q < 256) → Begins g l.n l.initial.out → Begins g (l.n + l.u) l.out)
