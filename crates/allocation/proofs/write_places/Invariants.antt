-- `write_places` meets its contract. The loop's invariant: the first q places are written. Assumes nothing.
use Prim.Native.Nat.{◌≤◌}
use Rattle.allocation.specs.Owners.{owner_of}
use Rattle.bits.proofs.Listed.{Filled}
use Rattle.allocation.proofs.write_places.Given as goal

abbrev pub invariant-loop-q : goal.invariant-loop-q
invariant-loop-q l = (l.q ≤ 16) × Filled 16 (owner_of 8 0 l.given) l.places l.q
