-- `answer_all` ends: its count goes up to a number. Assumes nothing.
use Rattle.std.specs.Prelude.{◌≤◌}
use Rattle.nearest.proofs.answer_all.Given as goal

abbrev pub invariant-loop-number : goal.invariant-loop-number
invariant-loop-number g l = l.number ≤ 281474976710656
