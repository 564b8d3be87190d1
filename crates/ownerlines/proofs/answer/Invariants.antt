-- `answer` meets its contract. The loop's invariant: what `take_byte` says of a byte holds of the block's first i bytes, with at most 200 bytes put for each. Assumes nothing.
use mathlib.Core.Path.{◌≡◌}
use Prim.Native.Nat.{ℕ, ◌+◌, ◌*◌, ◌≤◌}
use mathlib.Core.List.{List, ◌++◌}
use lib.ListN.{length, take}
use Rattle.ownerlines.specs.Running.{Reached}
use Rattle.ownerlines.proofs.answer.Given as goal

abbrev pub invariant-loop-b : goal.invariant-loop-b
invariant-loop-b l =
    (l.b-index ≤ length l.block) × (length l.line ≡ length l.initial.line) × (length l.out ≡ length l.initial.out) × (l.q.held ≤ 4096) × (l.q.end ≤ 200 * l.b-index) × (l.q.number ≤ l.initial.q.number + l.b-index) ×
    ((seen text : List ℕ) → Reached l.mode seen text l.initial.line l.initial.q → Reached l.mode (seen ++ take l.b-index l.block) (text ++ take l.q.end l.out) l.line l.q)
