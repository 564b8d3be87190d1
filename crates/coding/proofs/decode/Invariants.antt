-- `coding::decode` meets its contract. The loop's invariant: the bytes of u units are stored. Assumes nothing.
use Prim.Native.Nat.{◌*◌}
use lib.ListN.{length}
use Rattle.bits.specs.Bits.{bit_at}
use Rattle.bits.proofs.Stores.{Stored}
use Rattle.coding.specs.Buffers.{uncoded_each}
use Rattle.coding.proofs.Places.{UnitIs}
use Rattle.coding.proofs.decode.Given as goal

abbrev pub invariant-loop-u : goal.invariant-loop-u
invariant-loop-u l = Stored (length l.initial.out) (uncoded_each l.rate (8 * l.n) (bit_at l.coded)) l.out (2 * l.u) × UnitIs l.n l.u l.v
