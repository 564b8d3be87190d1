-- `px2::write_row` meets its contract. The loop's invariant: q pairs of partitions are written. Assumes nothing.
use mathlib.Core.Path.{◌≡◌}
use Prim.Native.Nat.{ℕ, ◌≤◌, ◌+◌, ◌*◌}
use mathlib.Core.List.{List}
use lib.ListN.{length}
use Rattle.bits.specs.Bits.{bit_at}
use Rattle.px2.specs.Places.{byte_in, Changed}
use Rattle.px2.proofs.write_row.Given as goal

abbrev pub invariant-loop-q : goal.invariant-loop-q
invariant-loop-q v =
    (v.q ≤ v.n) × (length v.px2 ≡ length v.initial.px2)
    × ((l : List ℕ) → Changed v.first (18 * ((v.row + 1) * v.y)) (byte_in v.row (bit_at v.coded)) l v.initial.px2 → Changed v.first (18 * ((v.row + 1) * v.y) + 9 * v.q) (byte_in v.row (bit_at v.coded)) l v.px2)
