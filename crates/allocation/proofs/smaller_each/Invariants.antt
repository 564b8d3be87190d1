-- `smaller_each` meets its contract. The loop's invariant: the first d are in place. Assumes nothing.
use Prim.Native.Nat.{min, ◌≤◌}
use lib.ListN.{get_or}
use Rattle.bits.proofs.Listed.{Filled}
use Rattle.allocation.proofs.smaller_each.Given as goal

abbrev pub invariant-loop-d : goal.invariant-loop-d
invariant-loop-d l = (l.d ≤ 8) × Filled 8 (λ d. min (get_or l.shares d 0) (get_or l.waiting d 0)) l.given l.d
