-- `px::merge_turns` meets its contract: the law `status-more`. The loop's invariant: the byte g of the first t blocks is merged. Assumes nothing.
use mathlib.Core.Path.{◌≡◌}
use mathlib.Core.List.{List}
use Prim.Native.Nat.{ℕ, ◌+◌, ◌*◌, ◌≤◌}
use lib.ListN.{length}
use Rattle.interleaving.specs.PX.{coded_bytes}
use Rattle.px.specs.Merged.{Status}
use Rattle.px.proofs.merge_turns.Given as goal

abbrev pub invariant-loop-t : goal.invariant-loop-t
invariant-loop-t l = (l.t ≤ 16) × (length l.memory ≡ 2 * coded_bytes l.kind) × (length l.px ≡ coded_bytes l.kind)
    × ((m p : List ℕ) → Status l.kind l.half l.initial.memory l.initial.px m p (16 * l.g) → Status l.kind l.half l.memory l.px m p (16 * l.g + l.t))
