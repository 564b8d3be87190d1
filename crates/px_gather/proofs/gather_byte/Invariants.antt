-- `px_gather::gather_byte` meets its contract: the law `later-found`. The loop's invariant: a is the number of the first u bits. Assumes nothing.
use mathlib.Core.Path.{◌≡◌}
use Prim.Native.Nat.{◌+◌, ◌*◌, ◌≤◌}
use Rattle.bits.specs.Bits.{bit_at, number}
use Rattle.interleaving.specs.PX.{partitions, later}
use Rattle.px_gather.proofs.gather_byte.Given as goal

abbrev pub invariant-loop-delay : goal.invariant-loop-delay
invariant-loop-delay l = (l.delay-index ≤ 8) × (l.a ≡ number l.delay-index (λ k. bit_at l.three (later l.kind l.half (8 * (144 * partitions l.kind * l.t + l.g) + k))))
