-- `put_digits` meets its contract. The loop's invariant: what is put, and the k digits that are left, are all sixteen. Assumes nothing.
use mathlib.Core.Path.{◌≡◌}
use mathlib.Core.List.{◌++◌}
use Prim.Native.Nat.{◌+◌, ◌^◌, ◌≤◌, ◌<◌}
use lib.ListN.{length, take}
use Rattle.vector_step.specs.Numbers.{digits}
use Rattle.vector_step.proofs.numbers.put_digits.Given as goal

abbrev pub invariant-loop-k : goal.invariant-loop-k
invariant-loop-k l =
    (l.k ≤ 16) × (l.end + l.k ≡ l.at + 16) × (length l.out ≡ length l.initial.out) × (l.left < 10 ^ l.k) × (take l.end l.out ++ digits l.k l.left ≡ take l.at l.initial.out ++ digits 16 l.n)
