-- `control::fill_control` meets its contract. The loop's invariant: the first blocks, as many as the count, are written. Assumes nothing.
use mathlib.Core.Path.{◌≡◌}
use Prim.Native.Nat.{◌*◌}
use lib.ListN.{take}
use Rattle.bits.specs.Bits.{packed}
use Rattle.control.specs.Control.{control_bit}
use Rattle.control.proofs.fill_control.Given as goal

abbrev pub invariant-loop-count : goal.invariant-loop-count
invariant-loop-count l =
    take (l.count * 256) l.out ≡ packed (l.count * 256) (control_bit l.mode l.reserved)
