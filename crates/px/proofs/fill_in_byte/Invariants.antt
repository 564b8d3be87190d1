-- `px::fill_in_byte` meets its contract. The loop's invariant: none of the byte's first u bits is a fill that is 1. Assumes nothing.
use mathlib.Core.Path.{◌≡◌}
use mathlib.Core.Bool.{false}
use Prim.Native.Nat.{ℕ, ◌+◌, ◌*◌, ◌≤◌, ◌<◌}
use Rattle.bits.specs.Bits.{bit_at}
use Rattle.interleaving.specs.PX.{is_fill}
use Rattle.px.proofs.fill_in_byte.Given as goal

abbrev pub invariant-loop-u : goal.invariant-loop-u
invariant-loop-u l = (l.u ≤ 8) × ((i : ℕ) → 8 * l.j ≤ i → i < 8 * l.j + l.u → is_fill l.kind l.half (bit_at l.px) i ≡ false)
