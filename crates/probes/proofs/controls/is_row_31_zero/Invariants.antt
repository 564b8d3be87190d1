-- `is_row_31_zero` is safe and ends. Assumes nothing.
use Rattle.std.specs.Prelude.{length, ◌≤◌}
use Rattle.probes.proofs.controls.is_row_31_zero.Given as goal

abbrev pub invariant-loop-i : goal.invariant-loop-i
invariant-loop-i l = l.i ≤ length l.control
