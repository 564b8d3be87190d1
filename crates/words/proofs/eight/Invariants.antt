-- `eight` meets its contract. The loop's invariant: the first d numbers are in place. Assumes nothing.
use Prim.Native.Nat.{◌*◌, ◌/◌, ◌%◌, ◌^◌, ◌≤◌}
use Rattle.bits.proofs.Listed.{Filled}
use Rattle.words.proofs.eight.Given as goal

abbrev pub invariant-loop-d : goal.invariant-loop-d
invariant-loop-d l = (l.d ≤ 8) × Filled 8 (λ d. l.word / 2 ^ (8 * d) % 2 ^ 8) l.numbers l.d
