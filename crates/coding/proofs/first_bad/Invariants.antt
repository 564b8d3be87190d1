-- `coding::first_bad` meets its contract. The loop's invariant: u units agree. Assumes nothing.
use Prim.Native.Nat.{◌*◌}
use Rattle.bits.specs.Bits.{bit_at}
use Rattle.coding.specs.Channel.{Agree}
use Rattle.coding.specs.Buffers.{coded_each}
use Rattle.coding.specs.Units.{group_size}
use Rattle.coding.proofs.Places.{UnitIs}
use Rattle.coding.proofs.first_bad.Given as goal

abbrev pub invariant-loop-u : goal.invariant-loop-u
invariant-loop-u l = Agree (8 * (group_size l.rate * l.u)) (bit_at l.coded) (coded_each l.rate (8 * l.n) (bit_at l.frames)) × UnitIs l.n l.u l.v
