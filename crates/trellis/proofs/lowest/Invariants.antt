-- `trellis::lowest` meets its contract. The loop's invariant: m is the least of the first r scores. Assumes nothing.
use Prim.Native.Nat.{◌≤◌}
use Rattle.trellis.specs.Trellis.{LeastScore}
use Rattle.trellis.proofs.lowest.Given as goal

abbrev pub invariant-loop-r : goal.invariant-loop-r
invariant-loop-r l = (l.r ≤ 64) × LeastScore l.scores l.r l.m
