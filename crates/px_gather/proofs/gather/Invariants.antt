-- `px_gather::gather` meets its contract. The loop's invariant: the first g bytes of each turn are stored. Assumes nothing.
use mathlib.Core.Path.{◌≡◌}
use Prim.Native.Nat.{ℕ, ◌+◌, ◌*◌, ◌<◌}
use lib.ListN.{length, get_or}
use Rattle.bits.specs.Bits.{bit_at, byte_of}
use Rattle.interleaving.specs.PX.{partitions, coded_bytes, later}
use Rattle.px_gather.proofs.gather.Given as goal

abbrev pub invariant-loop-g : goal.invariant-loop-g
invariant-loop-g l =
    (length l.coded ≡ coded_bytes l.kind)
    × ((t h : ℕ) → t < 16 → h < l.g → get_or l.coded (144 * partitions l.kind * t + h) 0 ≡ byte_of (λ i. bit_at l.three (later l.kind l.half i)) (144 * partitions l.kind * t + h))
