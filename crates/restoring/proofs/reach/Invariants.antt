-- `restoring::reach` meets its contract. The loop's invariant: the sets from step j on are written. Assumes nothing.
use mathlib.Core.Path.{◌≡◌}
use Prim.Native.Nat.{◌≤◌}
use lib.ListN.{length}
use Rattle.restoring.specs.Reaching.{Reached}
use Rattle.restoring.proofs.reach.Given as goal

abbrev pub invariant-loop-j : goal.invariant-loop-j
invariant-loop-j l = (l.j ≤ 80) × (length l.kept ≡ 5184) × Reached l.cells l.j l.kept
