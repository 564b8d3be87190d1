-- `trellis::fill` meets its contract. The loop's invariant: w costs are written, and those of earlier steps stand. Assumes nothing.
use mathlib.Core.Path.{◌≡◌}
use Prim.Native.Nat.{ℕ, ◌+◌, ◌<◌, ◌≤◌}
use lib.ListN.{length, get_or}
use Rattle.trellis.specs.Trellis.{outputs_of}
use Rattle.trellis.proofs.fill.Given as goal

abbrev pub invariant-loop-w : goal.invariant-loop-w
invariant-loop-w l =
    (l.w ≤ 128)
    × (length l.table ≡ 10240)
    × ((q : ℕ) → q < l.w → get_or l.table (l.at + q) 0 ≡ get_or l.costs (outputs_of q) 0)
    × ((n : ℕ) → n < l.at → get_or l.table n 0 ≡ get_or l.initial.table n 0)
