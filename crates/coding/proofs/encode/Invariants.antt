-- `coding::encode` meets its contract. The loop's invariant: the bytes of u units are stored. Assumes nothing.
use Prim.Native.Nat.{◌*◌}
use lib.ListN.{length}
use Rattle.bits.specs.Bits.{bit_at}
use Rattle.bits.proofs.Stores.{Stored}
use Rattle.coding.specs.Buffers.{coded_each}
use Rattle.coding.specs.Units.{group_size}
use Rattle.coding.proofs.Places.{UnitIs}
use Rattle.coding.proofs.encode.Given as goal

abbrev pub invariant-loop-u : goal.invariant-loop-u
invariant-loop-u l = Stored (length l.initial.out) (coded_each l.rate (8 * l.n) (bit_at l.frames)) l.out (group_size l.rate * l.u) × UnitIs l.n l.u l.v
