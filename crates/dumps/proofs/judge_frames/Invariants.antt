-- `judge_frames` meets its contract. The loop's invariant: the L1 frames from number t on, judged from byte `at` on, decide. Assumes nothing.
use mathlib.Core.Path.{◌≡◌}
use Prim.Native.Nat.{◌-◌, ◌≤◌}
use lib.ListN.{length, drop}
use Rattle.calls.specs.Called.{memory}
use Rattle.layout.specs.Layout.{frame_bytes}
use Rattle.dumps.specs.Judged.{judged_frames, judged_fresh}
use Rattle.dumps.proofs.judge_frames.Given as goal

abbrev pub invariant-loop-t : goal.invariant-loop-t
invariant-loop-t l =
    (l.at ≤ length l.frames) × (l.t ≤ l.count) × (l.n ≡ frame_bytes l.mode)
    × (length l.memory3 ≡ length l.initial.memory3) × (length l.memory4 ≡ length l.initial.memory4) × (length l.delay ≡ length l.initial.delay)
    × (judged_frames l.mode (l.count - l.t) l.t l.state (memory l.memory3 l.memory4 l.delay) (drop l.at l.frames) ≡ judged_fresh l.mode l.count l.frames)
