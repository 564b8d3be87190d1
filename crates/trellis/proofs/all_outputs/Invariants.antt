-- `trellis::all_outputs` meets its contract. The loop's invariant: the outputs of the first w windows are found. Assumes nothing.
use mathlib.Core.Path.{◌≡◌}
use Prim.Native.Nat.{ℕ, ◌<◌, ◌≤◌}
use lib.ListN.{length, get_or}
use Rattle.trellis.specs.Trellis.{outputs_of}
use Rattle.trellis.proofs.all_outputs.Given as goal

abbrev pub invariant-loop-w : goal.invariant-loop-w
invariant-loop-w l = (l.w ≤ 128) × (length l.all ≡ 128) × ((q : ℕ) → q < l.w → get_or l.all q 0 ≡ outputs_of q)
