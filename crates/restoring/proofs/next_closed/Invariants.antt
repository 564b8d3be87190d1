-- `restoring::next_closed` meets its contract. The loop's invariant: none was found so far. Assumes nothing.
use mathlib.Core.Path.{◌≡◌}
use mathlib.Core.Bool.{false}
use mathlib.Core.List.{List}
use Prim.Native.Nat.{ℕ, ◌<◌, ◌≤◌}
use Rattle.restoring.specs.Reaching.{Reached, closed}
use Rattle.restoring.proofs.next_closed.Given as goal

abbrev pub invariant-loop-e : goal.invariant-loop-e
invariant-loop-e l = (l.from ≤ l.e) × (l.e ≤ 64) × ((cells : List ℕ) → Reached cells 0 l.kept → (d : ℕ) → l.from ≤ d → d < l.e → closed cells d ≡ false)
