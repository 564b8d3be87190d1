-- `listing::list` meets its contract. The loop's invariant: what `take_byte` says of a byte holds of the block's first i bytes, with at most 92 bytes put for each. Assumes nothing.
use mathlib.Core.Path.{◌≡◌}
use Prim.Native.Nat.{ℕ, ◌+◌, ◌*◌, ◌≤◌}
use mathlib.Core.List.{List, ◌++◌}
use lib.ListN.{length, take}
use Rattle.listing.specs.Running.{Reached}
use Rattle.listing.proofs.blocks.list.Given as goal

abbrev pub invariant-loop-b : goal.invariant-loop-b
invariant-loop-b l =
    (l.b-index ≤ length l.block) × (length l.out ≡ length l.initial.out) × (l.q.end ≤ 92 * l.b-index) × (l.q.number ≤ l.initial.q.number + l.b-index) ×
    ((seen text : List ℕ) → Reached seen text l.initial.q → Reached (seen ++ take l.b-index l.block) (text ++ take l.q.end l.out) l.q)
