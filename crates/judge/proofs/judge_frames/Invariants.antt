-- `judge_frames` meets its contract: what it puts stands in the line. The loop's invariant: no buffer's length changes. Assumes nothing.
use Rattle.std.specs.Prelude.{length, ◌≡◌}
use Rattle.judge.proofs.judge_frames.Given as goal

abbrev pub invariant-loop-t : goal.invariant-loop-t
invariant-loop-t g l =
    (length l.frame ≡ length l.initial.frame) × (length l.memory3 ≡ length l.initial.memory3) × (length l.memory4 ≡ length l.initial.memory4)
    × (length l.delay ≡ length l.initial.delay) × (length l.line ≡ length l.initial.line)
