-- `turn` meets its contract. The loop's invariant: no buffer's length changes. Assumes nothing.
use Rattle.std.specs.Prelude.{length, ◌≡◌}
use Rattle.keys.proofs.turn.Given as goal

abbrev pub invariant-loop-run : goal.invariant-loop-run
invariant-loop-run g l = (length l.sum ≡ length l.initial.sum) × (length l.more ≡ length l.initial.more)
