-- `interleave_second` meets its contract. The loop's invariant: the first f frames are written. Assumes nothing.
use mathlib.Core.Path.{◌≡◌}
use Prim.Native.Nat.{◌*◌, ◌/◌, ◌≤◌}
use lib.ListN.{length}
use Rattle.bits.specs.Bits.{Bytes, bit_at, written}
use Rattle.coding.specs.declared.Rate.TheVariants.{Half}
use Rattle.coding.specs.Buffers.{coded_each}
use Rattle.interleaving.specs.PX2.{frame_bits, place}
use Rattle.diversity.proofs.interleave_second.Given as goal

abbrev pub invariant-loop-f : goal.invariant-loop-f
invariant-loop-f l =
    (l.f ≤ 8) × (length l.coded ≡ length l.initial.coded) × (length l.px2 ≡ length l.initial.px2) × Bytes l.px2
    × (bit_at l.px2 ≡ written (place l.row) (coded_each Half (8 * (length l.scrambled / 8)) (bit_at l.scrambled)) (l.f * frame_bits l.row) (bit_at l.initial.px2))
