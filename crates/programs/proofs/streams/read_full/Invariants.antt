-- `read_full` meets its contract. The loop's invariant: the bytes that stand there are no more than the buffer has. Assumes nothing.
use Rattle.std.specs.Prelude.{length, ◌-◌, ◌≡◌, ◌≤◌}
use Rattle.programs.proofs.streams.read_full.Given as goal

abbrev pub invariant-loop-done : goal.invariant-loop-done
invariant-loop-done g l = (l.done ≤ length l.buffer) × (length l.buffer ≡ length l.initial.buffer)

abbrev pub decreases-loop-done : goal.decreases-loop-done
decreases-loop-done g l = length l.initial.buffer - l.done
