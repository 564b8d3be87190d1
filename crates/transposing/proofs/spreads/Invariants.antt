-- `transposing::spreads` meets its contract. The loop's invariant: the first x numbers are spread. Assumes nothing.
use mathlib.Core.Path.{◌≡◌}
use Prim.Native.Nat.{◌≤◌}
use lib.ListN.{length}
use Rattle.transposing.specs.Words.{Begins, spread_of}
use Rattle.transposing.proofs.spreads.Given as goal

abbrev pub invariant-loop-x : goal.invariant-loop-x
invariant-loop-x g l = (l.x ≤ g.row.N) × (length l.table ≡ g.row.N) × Begins spread_of l.x l.table
