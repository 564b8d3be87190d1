-- `append` is safe and ends. Assumes nothing.
use Rattle.std.specs.Prelude.{length, ◌≤◌}
use Rattle.probes.proofs.lent.append.Given as goal

abbrev pub invariant-loop-b : goal.invariant-loop-b
invariant-loop-b l = l.b-index ≤ length l.s
