-- `put_places` meets its contract. The loop's invariant: the first k places are put. Assumes nothing.
use Prim.Native.Nat.{◌*◌, ◌≤◌}
use Rattle.text.specs.Put.{Put}
use Rattle.placelines.specs.Printed.{spelled_places}
use Rattle.placelines.proofs.printing.put_places.Given as goal

abbrev pub invariant-loop-k : goal.invariant-loop-k
invariant-loop-k l = (l.k ≤ 16) × Put l.initial.out l.out l.at l.end (4 * l.k) (spelled_places l.k l.places)
