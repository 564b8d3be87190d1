-- `first_wrong` meets its contract. The loop's invariant: what is wrong from place i on is what is wrong at all. Assumes nothing.
use mathlib.Core.Path.{◌≡◌}
use mathlib.Core.List.{List}
use mathlib.Core.Option.{Option}
use Prim.Native.Nat.{ℕ, ◌≤◌}
use lib.ListN.{length, drop}
use Rattle.runs.specs.Causes.{wrong}
use Rattle.modes.specs.Sizes.{sizes}
use Rattle.modes.proofs.first_wrong.Given as goal

-- what is wrong from place i on
abbrev from : List ℕ → List ℕ → ℕ → Option ℕ
from have want i = wrong i (sizes (drop i have) (drop i want))

abbrev pub invariant-loop-i : goal.invariant-loop-i
invariant-loop-i l = (l.i ≤ length l.have) × (from l.have l.want 0 ≡ from l.have l.want l.i)
