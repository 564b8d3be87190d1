-- `rounds` meets its contract. The loop's invariant: n turns are done. Assumes nothing.
use mathlib.Core.Path.{◌≡◌}
use mathlib.Core.List.{List}
use Prim.Native.Nat.{ℕ, ◌≤◌}
use Rattle.allocation.specs.Allocation.{first, turns}
use Rattle.allocation.proofs.rounds.Given as goal

abbrev pub invariant-loop-n : goal.invariant-loop-n
invariant-loop-n l = (l.n ≤ 128) × ((shares : List ℕ) → l.initial.s ≡ first shares l.waiting → l.s ≡ turns shares l.waiting l.n)
