-- `put_lines` meets its contract. The loop's invariant: the lines of the first k elements are put. Assumes nothing.
use mathlib.Core.Path.{◌≡◌}
use Prim.Native.Nat.{◌*◌, ◌≤◌}
use lib.ListN.{length, take}
use Rattle.vector_step.specs.Printed.{lines}
use Rattle.vector_step.proofs.lines.put_lines.Given as goal

abbrev pub invariant-loop-k : goal.invariant-loop-k
invariant-loop-k l = (l.k ≤ 1093) × (l.end ≤ 125 * l.k) × (length l.out ≡ length l.initial.out) × (take l.end l.out ≡ lines l.mode l.re l.im l.k)
