-- `read_all` ends, and is safe. The loop's invariant: no buffer's length changes. Assumes nothing.
use Rattle.std.specs.Prelude.{length, ◌≡◌}
use Rattle.reader.proofs.read_all.Given as goal

abbrev pub invariant-loop-frame : goal.invariant-loop-frame
invariant-loop-frame g l =
    (length l.input ≡ length l.initial.input) × (length l.memory3 ≡ length l.initial.memory3) × (length l.memory4 ≡ length l.initial.memory4) × (length l.delay ≡ length l.initial.delay)
