use mathlib.Core.Path.{refl}
use Prim.Native.Nat.{◌+◌, ◌*◌, ◌/◌, ◌≤◌, ◌<◌}
use native.Mathlib.Omega.{arith}
use lib.ListN.{length, length-set}
use lib.Bits.{and_le_r, and_mask}
use Rattle.bits.proofs.Stores.{stored-turn, stored-all}
use Rattle.scrambling.specs.Scrambler.{sequence}
use Rattle.scrambling.specs.Words.{word_of}
use Rattle.scrambling.proofs.Words.{sequence-bit, scrambled-byte}
use Rattle.scrambling.proofs.scramble_rest.Goals as goal

pub loop-i-init : goal.loop-i-init
loop-i-init c = (record { inside = omega arith; long = refl; front = c.requires.2 }, omega arith)

pub byte_of-requires : goal.byte_of-requires
byte_of-requires c = omega (arith, and_le_r c.loop-i.i 3)

pub loop-i-preserved : goal.loop-i-preserved
unfolding word_of
loop-i-preserved c =
    let frame = c.args.frame.now in
    let w = length c.args.out.now / 4 in
    let loop = c.loop-i in
    let b = c.byte_of.ensures (λ k. sequence (32 * w + k)) (λ k. sequence-bit _) c.requires.1 in
    let here : (4 * w ≤ loop.i) × (loop.i < 4 * w + 4) = omega (arith, loop.invariant.0.long) in (
      stored-turn _ loop.invariant.0 (omega (arith, loop.invariant.0.long))
          (scrambled-byte frame w loop.i _ (omega (arith, c.shared_slice_known-in-loop-i-1.given loop.i)) here.0 here.1
          (rw (and_mask loop.i 2) at b)),
      simp length-set (omega arith),
    )

pub returns : goal.returns
returns c = stored-all c.loop-i.invariant.0 (omega (arith, c.loop-i.invariant.0.long))
