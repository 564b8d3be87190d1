-- `pm::scatter::write_pair` meets its contract. The loop's invariant: y bytes are written. Assumes nothing.
use mathlib.Core.Path.{◌≡◌}
use Prim.Native.Nat.{ℕ, ◌≤◌, ◌<◌, ◌+◌, ◌*◌}
use lib.ListN.{length, get_or}
use Rattle.pm.specs.Rows.{Changed, seat_of}
use Rattle.pm.proofs.scatter.write_pair.Given as goal

abbrev pub invariant-loop-y : goal.invariant-loop-y
invariant-loop-y l =
    (l.y ≤ 9) × (length l.pm ≡ length l.initial.pm)
    × ((g : ℕ → ℕ) → ((y : ℕ) → y < 9 → g (l.n + y) ≡ 16 * get_or l.nibbles (seat_of l.t l.u (2 * y)) 0 + get_or l.nibbles (seat_of l.t l.u (2 * y + 1)) 0) → Changed l.n (l.n + l.y) g l.initial.pm l.pm)
