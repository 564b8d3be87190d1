-- `sum` meets its contract. The loop's invariant: s is the sum of the numbers before n. Assumes nothing.
use mathlib.Core.Path.{◌≡◌}
use Prim.Native.Nat.{◌*◌, ◌≤◌}
use Rattle.allocation.specs.Allocation.{total}
use Rattle.allocation.proofs.sum.Given as goal

abbrev pub invariant-loop-n : goal.invariant-loop-n
invariant-loop-n l = (l.n-index ≤ 8) × (l.s ≤ 255 * l.n-index) × (l.s ≡ total l.n-index l.fn.numbers)
