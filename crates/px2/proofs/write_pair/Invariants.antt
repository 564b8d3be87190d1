-- `px2::write_pair` meets its contract. The loop's invariant: e bytes more are written. Assumes nothing.
use mathlib.Core.Path.{◌≡◌}
use Prim.Native.Nat.{ℕ, ◌≤◌, ◌<◌, ◌+◌, ◌*◌}
use mathlib.Core.List.{List}
use lib.ListN.{length}
use Rattle.transposing.specs.Words.{Begins}
use Rattle.px2.specs.Places.{row_of, pair_of, Changed}
use Rattle.px2.proofs.write_pair.Given as goal

abbrev pub invariant-loop-e : goal.invariant-loop-e
invariant-loop-e v =
    (v.e ≤ 9) × (length v.px2 ≡ length v.initial.px2)
    × ((f g : ℕ → ℕ) (starts l : List ℕ) (a : ℕ) → ((i : ℕ) → f i < 2) → Begins (row_of v.m f starts a) (72 * v.m) v.nibbles
    → ((e : ℕ) → e < 9 → g (v.n + e) ≡ 16 * pair_of f starts a v.s v.t (2 * e) + pair_of f starts a v.s v.t (2 * e + 1))
    → Changed v.first v.n g l v.initial.px2 → Changed v.first (v.n + v.e) g l v.px2)
