-- `sum_all` meets its contract. The loop's invariant: no buffer's length changes. Assumes nothing.
use Rattle.std.specs.Prelude.{length, ◌≡◌}
use Rattle.keys.proofs.sum_all.Given as goal

abbrev pub invariant-loop-frame : goal.invariant-loop-frame
invariant-loop-frame g l = (length l.sum ≡ length l.initial.sum) × (length l.more ≡ length l.initial.more)
