-- `first_apart` meets its contract. The loop's invariant: no piece below f differs. Assumes nothing.
use mathlib.Core.Path.{◌≡◌}
use mathlib.Core.Bool.{false}
use Prim.Native.Nat.{ℕ, ◌≤◌, ◌<◌}
use Rattle.diversity.specs.Rooms.{apart}
use Rattle.diversity.proofs.first_apart.Given as goal

abbrev pub invariant-loop-f : goal.invariant-loop-f
invariant-loop-f l = (l.f ≤ 8) × ((i : ℕ) → i < l.f → apart l.n l.a l.b i ≡ false)
