use mathlib.Core.Path.{◌≡◌, refl, ap, ◌∙◌}
use Prim.Native.Nat.{ℕ, ◌+◌, ◌*◌, ◌/◌, ◌≤◌, ◌<◌}
use native.Mathlib.Omega.{arith}
use lib.ListN.{length-set}
use Rattle.bits.specs.Bits.{bit_at, byte_of}
use Rattle.interleaving.specs.PX.{partitions, coded_bytes, later}
use Rattle.interleaving.proofs.PXKinds.{coded_bytes-le}
use Rattle.px_steps.proofs.Residues.{in_frame, turn_more, others-stay, turn-le}
use borrow.Author.Rules.{rules}
use Rattle.px_gather.proofs.gather_turns.Goals as goal
use Rattle.px_gather.proofs.gather_turns.Goals.{After-gather_byte}

-- the byte that is stored: its place and bounds
stored_at : (c : After-gather_byte)
    → let a = c.args in
    let t = c.loop-t.t in
    let size = c.block-size.result / 8 in
    (size * t + a.g < coded_bytes a.kind) × (size * t ≤ 4608 * 15) × (coded_bytes a.kind ≤ 9216) × (size * t + a.g ≡ 144 * partitions a.kind * t + a.g)
stored_at c =
    let a = c.args in
    let pre = c.requires in
    let t = c.loop-t.t in
    let taken = c.loop-t-test.true in
    let block = c.block-size.ensures in
    let size : c.block-size.result / 8 ≡ 144 * partitions a.kind = omega (arith, block.0) in
    let e : c.block-size.result / 8 * t + a.g ≡ 144 * partitions a.kind * t + a.g = ap (λ (w : ℕ). w * t + a.g) size in (
      rw e (in_frame a.kind t a.g 0 pre.0 taken pre.2 (omega arith)).0,
      turn-le _ t (omega (arith, block.1)) taken,
      coded_bytes-le a.kind pre.0,
      e,
    )

pub loop-t-init : goal.loop-t-init
loop-t-init c = (search rules, search rules, λ s h. absurd (omega arith), λ s h l. refl)

pub gather_byte-requires : goal.gather_byte-requires
gather_byte-requires c =
    let pre = c.requires in
    (pre.0, pre.1, pre.2, c.loop-t-test.true, pre.3, pre.4)

pub overflow_mul-coded : goal.overflow_mul-coded
overflow_mul-coded c = omega (arith, (stored_at c).1)

pub overflow_add-coded : goal.overflow_add-coded
overflow_add-coded c = omega (arith, (stored_at c).0, (stored_at c).2)

pub bounds-coded-size : goal.bounds-coded-size
bounds-coded-size c = omega (arith, (stored_at c).0)

pub loop-t-preserved : goal.loop-t-preserved
loop-t-preserved c =
    let loop = c.loop-t in
    let a = c.args in
    let pre = c.requires in
    let taken = c.loop-t-test.true in (
      omega arith,
      simp length-set loop.invariant.1,
      turn_more a.kind a.g loop.t _ _ loop.coded pre.0 pre.2 taken (stored_at c).3 loop.invariant.1
          (byte_of (λ i. bit_at a.three.now (later a.kind a.half i))) loop.invariant.2 c.gather_byte.ensures,
      λ s h l. others-stay a.kind a.g loop.t _ _ loop.coded pre.0 pre.2 taken (stored_at c).3 loop.invariant.1 s h l ∙ loop.invariant.3 s h l,
    )

pub returns : goal.returns
returns c = record {
  by_index = λ t h. c.loop-t.invariant.2 t (omega arith);
  by_index_2 = c.loop-t.invariant.3;
}
