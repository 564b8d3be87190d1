-- `control::fill_block` meets its contract. The loop's invariant: the rows so far are stored. Assumes nothing.
use Prim.Native.Nat.{◌*◌}
use lib.ListN.{length}
use Rattle.bits.proofs.Stores.{Stored}
use Rattle.control.specs.Control.{block_bit}
use Rattle.control.proofs.fill_block.Given as goal

abbrev pub invariant-loop-row : goal.invariant-loop-row
invariant-loop-row l = Stored (length l.initial.out) (block_bit l.mode l.count l.reserved) l.out (l.row * 8)
