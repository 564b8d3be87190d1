-- `weigh` meets its contract. The loop's invariant: the sum of the first d terms. Assumes nothing.
use mathlib.Core.Path.{◌≡◌}
use Prim.Native.Nat.{◌+◌, ◌*◌, ◌≤◌}
use lib.ListN.{get_or}
use Rattle.coding.specs.Coder.{tap}
use Rattle.workings.proofs.Sums.{added}
use Rattle.workings.proofs.weigh.Given as goal

abbrev pub invariant-loop-d : goal.invariant-loop-d
invariant-loop-d l =
    (l.d ≤ 7) × (l.sum ≡ added (λ d. tap l.g d * (get_or l.bits d 0 + get_or l.scrambling d 0)) l.d) × (l.sum ≤ 2 * l.d)
