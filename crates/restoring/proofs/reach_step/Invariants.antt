-- `restoring::reach_step` meets its contract. The loop's invariant: r sets are written, and those of later steps stand. Assumes nothing.
use mathlib.Core.Path.{◌≡◌}
use Prim.Native.Nat.{ℕ, suc, ◌+◌, ◌<◌, ◌≤◌, ◌-◌}
use lib.ListN.{length, get_or}
use Rattle.restoring.specs.Reaching.{ends, Reached}
use Rattle.restoring.proofs.reach_step.Given as goal

abbrev pub invariant-loop-r : goal.invariant-loop-r
invariant-loop-r l = (l.r ≤ 64) × (length l.kept ≡ 5184) × ((q : ℕ) → q < l.r → get_or l.kept (l.at + q) 0 ≡ ends l.cells (80 - l.j) l.j q) × Reached l.cells (suc l.j) l.kept
