-- `put_frames` meets its contract. The loop's invariant: the L1 frames before t are sent and their answers put, and there is room for those that are left. Assumes nothing.
use mathlib.Core.Path.{◌≡◌}
use lib.ListN.{length, take}
use Rattle.calls.specs.Called.{memory}
use Rattle.sheetinputs.specs.Inputs.{frame_size}
use Rattle.sheetworks.specs.Works.{work_text}
use Rattle.sheetruns.proofs.Loop.{Going}
use Rattle.sheetruns.proofs.frames.put_frames.Given as goal

abbrev pub invariant-loop-t : goal.invariant-loop-t
invariant-loop-t l =
    (l.n ≡ frame_size l.mode l.n3 l.n4)
    × (length l.memory3 ≡ length l.initial.memory3) × (length l.memory4 ≡ length l.initial.memory4) × (length l.delay ≡ length l.initial.delay) × (length l.out ≡ length l.initial.out)
    × Going (work_text l.work l.mode l.n3 l.n4 l.bytes) l.mode l.count l.n3 l.n4 l.list l.bytes (take l.at l.initial.out) l.at l.out l.state (memory l.memory3 l.memory4 l.delay) l.end l.from l.t
