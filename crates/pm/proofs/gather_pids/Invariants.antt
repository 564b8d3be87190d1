-- `pm::gather_pids` meets its contract. The loop's invariant: the bits of the first m are read. Assumes nothing.
use mathlib.Core.Path.{◌≡◌}
use Prim.Native.Nat.{◌≤◌, ◌*◌}
use lib.ListN.{length}
use Rattle.bits.specs.Bits.{Bytes, bit_at, written}
use Rattle.interleaving.specs.PM.{pids_place}
use Rattle.pm.proofs.gather_pids.Given as goal

abbrev pub invariant-loop-m : goal.invariant-loop-m
invariant-loop-m l =
    (l.m ≤ 160) × (length l.coded ≡ 400) × Bytes l.coded × (bit_at l.coded ≡ written (λ i. i) (λ i. bit_at l.pm (pids_place i)) (20 * l.m) (bit_at l.initial.coded))
