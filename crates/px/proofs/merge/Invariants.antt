-- `px::merge` meets its contract. The loop's invariant: the first g bytes of each block are merged. Assumes nothing.
use mathlib.Core.Path.{◌≡◌}
use Prim.Native.Nat.{◌*◌, ◌≤◌}
use lib.ListN.{length}
use Rattle.interleaving.specs.PX.{coded_bytes}
use Rattle.px.specs.Merged.{Status}
use Rattle.px.proofs.merge.Given as goal

abbrev pub invariant-loop-g : goal.invariant-loop-g
invariant-loop-g l = (length l.memory ≡ 2 * coded_bytes l.kind) × (length l.px ≡ coded_bytes l.kind)
    × Status l.kind l.half l.memory l.px l.initial.memory l.initial.px (16 * l.g) × (l.g ≤ l.size)
