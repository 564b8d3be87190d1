-- `px_lanes::fresh_turns` meets its contract. The loop's invariant: the byte g of the first t blocks is stored, and the bytes before it stay. Assumes nothing.
use mathlib.Core.Path.{◌≡◌}
use mathlib.Core.List.{List}
use Prim.Native.Nat.{ℕ, ◌+◌, ◌*◌, ◌%◌, ◌≤◌, ◌<◌}
use lib.ListN.{length, get_or}
use Rattle.bits.specs.Bits.{bit_at, byte_of}
use Rattle.interleaving.specs.PX.{partitions, coded_bytes, coded_bits}
use Rattle.interleaving.specs.FinderPX.{source}
use Rattle.transposing.specs.Words.{Begins}
use Rattle.px_lanes.specs.Laid.{quad_at}
use Rattle.px_lanes.proofs.fresh_turns.Given as goal

abbrev pub invariant-loop-t : goal.invariant-loop-t
invariant-loop-t v =
    (v.t ≤ 16) × (length v.px ≡ coded_bytes v.kind)
    × ((l : List ℕ) (r : ℕ) → r < 32 → 2 * v.k < 9 * partitions v.kind → 2 * v.g ≡ 9 * partitions v.kind * r + 2 * v.k → Begins (quad_at v.kind l r) 144 v.quads
    → (s : ℕ) → s < v.t → get_or v.px (144 * partitions v.kind * s + v.g) 0 ≡ byte_of (λ i. bit_at l (source v.kind i % coded_bits v.kind)) (144 * partitions v.kind * s + v.g))
    × ((s h : ℕ) → h < v.g → get_or v.px (144 * partitions v.kind * s + h) 0 ≡ get_or v.initial.px (144 * partitions v.kind * s + h) 0)
