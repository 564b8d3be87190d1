use mathlib.Core.Path.{◌≡◌, refl, ap, ◌∙◌}
use Prim.Native.Nat.{ℕ, ◌+◌, ◌*◌, ◌<◌}
use native.Mathlib.Omega.{arith}
use lib.ListN.{get_or}
use Rattle.bits.specs.Bits.{bit_at, number}
use Rattle.bits.proofs.Packed.{bit_at_lt}
use Rattle.bits.proofs.Stores.{number-turn}
use Rattle.interleaving.specs.PX.{partitions, coded_bits, later}
use Rattle.interleaving.proofs.PXKinds.{coded_bytes-le}
use Rattle.px_gather.proofs.Delayed.{later-found}
use Rattle.px_steps.proofs.Residues.{turn-le}
use borrow.Author.Rules.{rules}
use Rattle.px_gather.proofs.gather_byte.Goals as goal
use Rattle.px_gather.proofs.gather_byte.Goals.{In-loop-delay}

-- where the bit stands, and its bound
place_is : (c : In-loop-delay)
    → let a = c.args in
    let u = c.loop-delay.delay-index in
    let l = c.block.result * a.t + get_or a.delays.now u 0 in
    (l ≡ later a.kind a.half (8 * (144 * partitions a.kind * a.t + a.g) + u)) × (l < 3 * coded_bits a.kind)
place_is c =
    let a = c.args in
    let pre = c.requires in
    let u = c.loop-delay.delay-index in
    let hu = c.loop-delay-test.true in
    let i : c.block.result * a.t ≡ 1152 * partitions a.kind * a.t = ap (λ (w : ℕ). w * a.t) c.block.ensures.0 in
    later-found a.kind a.half a.t a.g u _ _ pre.0 pre.1 pre.3 pre.2 hu i (pre.4 u hu)

pub overflow_mul-i : goal.overflow_mul-i
overflow_mul-i c = omega (arith, turn-le c.block.result c.args.t c.block.ensures.1 c.requires.3)

pub loop-delay-init : goal.loop-delay-init
unfolding number
loop-delay-init c = (search rules, refl)

pub overflow_add-i : goal.overflow_add-i
overflow_add-i c = omega (arith, (place_is (goal.at.overflow_add-i c).In-loop-delay).0, (place_is (goal.at.overflow_add-i c).In-loop-delay).1, coded_bytes-le c.args.kind c.requires.0)

pub get-requires : goal.get-requires
get-requires c = omega (arith, (place_is (goal.at.get-requires c).In-loop-delay).0, (place_is (goal.at.get-requires c).In-loop-delay).1)

pub loop-delay-preserved : goal.loop-delay-preserved
loop-delay-preserved c =
    let loop = c.loop-delay in
    let a = c.args in
    let three = a.three.now in (
      omega arith,
      number-turn (λ i. bit_at three (later a.kind a.half i)) (λ i. bit_at_lt three (later a.kind a.half i)) _ _ _ _ c.loop-delay-test.true
          loop.invariant.1 (c.get.ensures ∙ ap (bit_at three) (place_is (goal.at.loop-delay-preserved c).In-loop-delay).0),
    )

pub returns : goal.returns
returns c =
    let all : c.loop-delay.delay-index ≡ 8 = omega arith in
    rw all at c.loop-delay.invariant.1
