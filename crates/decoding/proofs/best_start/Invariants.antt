-- `decoding::best_start` meets its contract. The loop's invariant: `best` is the first nearest start below e. Assumes nothing.
use mathlib.Core.Path.{◌≡◌}
use Prim.Native.Nat.{◌≤◌}
use Rattle.trellis.specs.Trellis.{least, tabled}
use Rattle.decoding.specs.Starts.{BestStart}
use Rattle.decoding.proofs.best_start.Given as goal

abbrev pub invariant-loop-e : goal.invariant-loop-e
invariant-loop-e l = (l.e ≤ l.budget) × BestStart (tabled l.costs) l.e l.best.e × (l.best.distance ≡ least (tabled l.costs) l.best.e)
