-- `seven_added` meets its contract. The loop's invariant: the first d are in place. Assumes nothing.
use Prim.Native.Nat.{◌≤◌}
use Rattle.bits.proofs.Listed.{Filled}
use Rattle.coding.specs.Coder.{back}
use Rattle.scrambling.specs.Scrambler.{sequence}
use Rattle.workings.proofs.seven_added.Given as goal

abbrev pub invariant-loop-d : goal.invariant-loop-d
invariant-loop-d l = (l.d ≤ 7) × Filled 7 (λ d. sequence (back l.n l.j d)) l.seven l.d
