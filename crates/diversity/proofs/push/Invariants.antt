-- `push` meets its contract. The loop's invariant: the first i bytes are moved to the front. Assumes nothing.
use Prim.Native.Nat.{◌≤◌}
use Rattle.diversity.proofs.Moves.{Moved}
use Rattle.diversity.proofs.push.Given as goal

abbrev pub invariant-loop-i : goal.invariant-loop-i
invariant-loop-i l = (l.i ≤ l.kept) × Moved l.n l.initial.memory l.memory l.i
