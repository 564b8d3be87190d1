-- `pm::scatter::shown_bits` meets its contract. The loop's invariant: the first i are found. Assumes nothing.
use mathlib.Core.Path.{◌≡◌}
use Prim.Native.Nat.{◌≤◌, ◌/◌, ◌%◌}
use lib.ListN.{length}
use Rattle.transposing.specs.Words.{Begins}
use Rattle.pm.specs.Rows.{shown_of}
use Rattle.pm.proofs.scatter.shown_bits.Given as goal

abbrev pub invariant-loop-i : goal.invariant-loop-i
invariant-loop-i l = (l.i ≤ 320) × (length l.found ≡ 320) × Begins (λ q. shown_of (q / 20) (q % 20)) l.i l.found
