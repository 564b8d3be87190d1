-- `owner` meets its contract. The loop's invariant: what is left of q is counted from the first place of source d. Assumes nothing.
use mathlib.Core.Path.{◌≡◌}
use Prim.Native.Nat.{◌-◌, ◌≤◌}
use Rattle.allocation.specs.Owners.{owner_of}
use Rattle.allocation.proofs.owner.Given as goal

abbrev pub invariant-loop-d : goal.invariant-loop-d
invariant-loop-d l = (l.d ≤ 8) × (owner_of 8 0 l.given l.q ≡ owner_of (8 - l.d) l.d l.given l.rest)
