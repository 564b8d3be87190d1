-- `pm::scatter_pids` meets its contract. The loop's invariant: the bits of the first m are written. Assumes nothing.
use mathlib.Core.Path.{◌≡◌}
use Prim.Native.Nat.{◌≤◌, ◌*◌}
use lib.ListN.{length}
use Rattle.bits.specs.Bits.{Bytes, bit_at, written}
use Rattle.interleaving.specs.PM.{pids_place}
use Rattle.pm.proofs.scatter_pids.Given as goal

abbrev pub invariant-loop-m : goal.invariant-loop-m
invariant-loop-m l =
    (l.m ≤ 160) × (length l.pm ≡ 46080) × Bytes l.pm × (bit_at l.pm ≡ written pids_place (bit_at l.coded) (20 * l.m) (bit_at l.initial.pm))
