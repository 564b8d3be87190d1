-- `pm::scatter_pids_k` meets its contract. The loop's invariant: s bits more are written. Assumes nothing.
use mathlib.Core.Path.{◌≡◌}
use Prim.Native.Nat.{ℕ, ◌+◌, ◌*◌, ◌≤◌}
use lib.ListN.{length}
use Rattle.bits.specs.Bits.{bit_at, written}
use Rattle.interleaving.specs.PM.{pids_place}
use Rattle.pm.proofs.scatter_pids_k.Given as goal

abbrev pub invariant-loop-s : goal.invariant-loop-s
invariant-loop-s l =
    (l.s ≤ 20) × (length l.pm ≡ 46080)
    × ((f : ℕ → ℕ) → bit_at l.initial.pm ≡ written pids_place (bit_at l.coded) (20 * l.m) f → bit_at l.pm ≡ written pids_place (bit_at l.coded) (20 * l.m + l.s) f)
