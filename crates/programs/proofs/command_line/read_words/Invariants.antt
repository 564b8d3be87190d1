-- `read_words` meets its contract. The loop's invariant: the text so far is no longer than the buffer. Assumes nothing.
use Rattle.std.specs.Prelude.{length, ◌≡◌, ◌≤◌}
use Rattle.programs.proofs.command_line.read_words.Given as goal

abbrev pub invariant-loop-i : goal.invariant-loop-i
invariant-loop-i g l = (l.at ≤ length l.out) × (length l.out ≡ length l.initial.out)
