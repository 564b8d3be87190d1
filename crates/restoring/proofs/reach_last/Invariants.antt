-- `restoring::reach_last` meets its contract. The loop's invariant: r sets are written. Assumes nothing.
use mathlib.Core.Path.{◌≡◌}
use Prim.Native.Nat.{ℕ, ◌+◌, ◌^◌, ◌<◌, ◌≤◌}
use lib.ListN.{length, get_or}
use Rattle.restoring.proofs.reach_last.Given as goal

abbrev pub invariant-loop-r : goal.invariant-loop-r
invariant-loop-r l = (l.r ≤ 64) × (length l.kept ≡ 5184) × ((q : ℕ) → q < l.r → get_or l.kept (5120 + q) 0 ≡ 2 ^ q)
