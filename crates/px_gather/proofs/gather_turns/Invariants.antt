-- `px_gather::gather_turns` meets its contract. The loop's invariant: the byte g of the first t turns is stored, and the bytes before it stay. Assumes nothing.
use mathlib.Core.Path.{◌≡◌}
use Prim.Native.Nat.{ℕ, ◌+◌, ◌*◌, ◌≤◌, ◌<◌}
use lib.ListN.{length, get_or}
use Rattle.bits.specs.Bits.{bit_at, byte_of}
use Rattle.interleaving.specs.PX.{partitions, coded_bytes, later}
use Rattle.px_gather.proofs.gather_turns.Given as goal

abbrev pub invariant-loop-t : goal.invariant-loop-t
invariant-loop-t l =
    (l.t ≤ 16) × (length l.coded ≡ coded_bytes l.kind)
    × ((s : ℕ) → s < l.t → get_or l.coded (144 * partitions l.kind * s + l.g) 0 ≡ byte_of (λ i. bit_at l.three (later l.kind l.half i)) (144 * partitions l.kind * s + l.g))
    × ((s h : ℕ) → h < l.g → get_or l.coded (144 * partitions l.kind * s + h) 0 ≡ get_or l.initial.coded (144 * partitions l.kind * s + h) 0)
