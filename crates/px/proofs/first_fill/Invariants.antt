-- `px::first_fill` meets its contract. The loop's invariant: no bit of the first j bytes is a fill that is 1. Assumes nothing.
use mathlib.Core.Path.{◌≡◌}
use mathlib.Core.Bool.{false}
use Prim.Native.Nat.{ℕ, ◌*◌, ◌≤◌, ◌<◌}
use lib.ListN.{length}
use Rattle.bits.specs.Bits.{bit_at}
use Rattle.interleaving.specs.PX.{is_fill}
use Rattle.px.proofs.first_fill.Given as goal

abbrev pub invariant-loop-j : goal.invariant-loop-j
invariant-loop-j l = (l.j ≤ length l.px) × ((i : ℕ) → i < 8 * l.j → is_fill l.kind l.half (bit_at l.px) i ≡ false)
