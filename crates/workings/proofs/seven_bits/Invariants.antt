-- `seven_bits` meets its contract. The loop's invariant: the first d are in place. Assumes nothing.
use Prim.Native.Nat.{◌+◌, ◌≤◌}
use Rattle.bits.proofs.Listed.{Filled}
use Rattle.coding.specs.Coder.{back}
use Rattle.bits.specs.Bits.{bit_at}
use Rattle.workings.proofs.seven_bits.Given as goal

abbrev pub invariant-loop-d : goal.invariant-loop-d
invariant-loop-d l = (l.d ≤ 7) × Filled 7 (λ d. bit_at l.frames (l.start + back l.n l.j d)) l.seven l.d
