use mathlib.Core.Path.{◌≡◌, refl, ◌∙◌}
use Prim.Native.Nat.{◌+◌, ◌*◌, ◌/◌, ◌%◌, ◌≤◌, ◌<◌}
use native.Mathlib.Omega.{arith}
use lib.ListN.{length-set}
use Rattle.bits.specs.Bits.{bit_at, byte_of}
use Rattle.interleaving.specs.PX.{partitions, coded_bytes, coded_bits}
use Rattle.interleaving.specs.FinderPX.{source}
use Rattle.px_steps.proofs.Residues.{turn_more, others-stay, residue-more, stored_at}
use Rattle.px_lanes.proofs.LaneLaws.{byte-laid}
use borrow.Author.Rules.{rules}
use Rattle.px_lanes.proofs.fresh_turns.Goals as goal
use Rattle.px_lanes.proofs.fresh_turns.Goals.{After-nibble-low}

-- the byte that is stored: its place and bounds
place_at : (c : After-nibble-low)
    → let a = c.args in
    let t = c.loop-t.t in
    let w = c.block-size.result in
    (w / 8 * t + a.g ≡ 144 * partitions a.kind * t + a.g) × (w / 8 * t + a.g < coded_bytes a.kind) × (w / 8 * t ≤ 4608 * 15)
    × (coded_bytes a.kind ≤ 9216)
place_at c =
    let a = c.args in
    let pre = c.requires in
    let block = c.block-size in
    stored_at a.kind block.result c.loop-t.t a.g pre.0 c.loop-t-test.true pre.2 block.ensures.0 block.ensures.1

pub loop-t-init : goal.loop-t-init
loop-t-init c = (search rules, search rules, λ l r hr hk e b s h. absurd (omega arith), λ s h l. refl)

pub nibble-high-requires : goal.nibble-high-requires
nibble-high-requires c =
    (omega (arith, c.requires.1), c.loop-t-test.true)

pub nibble-low-requires : goal.nibble-low-requires
nibble-low-requires c =
    (omega (arith, c.requires.1), c.loop-t-test.true)

pub overflow_mul-px : goal.overflow_mul-px
overflow_mul-px c = omega (arith, c.nibble-high.ensures.1)

pub overflow_add-px : goal.overflow_add-px
overflow_add-px c = omega (arith, c.nibble-high.ensures.1, c.nibble-low.ensures.1)

pub overflow_mul-px-in-loop-t : goal.overflow_mul-px-in-loop-t
overflow_mul-px-in-loop-t c = omega (arith, (place_at c).2)

pub overflow_add-px-in-loop-t : goal.overflow_add-px-in-loop-t
overflow_add-px-in-loop-t c = omega (arith, (place_at c).1, (place_at c).3)

pub bounds-px-size : goal.bounds-px-size
bounds-px-size c = omega (arith, (place_at c).1, c.loop-t.invariant.1)

pub loop-t-preserved : goal.loop-t-preserved
loop-t-preserved c =
    let loop = c.loop-t in
    let a = c.args in
    let pre = c.requires in
    let taken = c.loop-t-test.true in (
      omega arith,
      simp length-set loop.invariant.1,
      λ l r hr hk e b. turn_more a.kind a.g loop.t _ _ loop.px pre.0 pre.2 taken (place_at c).0 loop.invariant.1
          (byte_of (λ i. bit_at l (source a.kind i % coded_bits a.kind))) (loop.invariant.2 l r hr hk e b)
          (byte-laid a.kind l loop.t r a.k a.g _ _ a.quads.now pre.0 taken hr hk e b c.nibble-high.ensures.0
          c.nibble-low.ensures.0),
      λ s h l. others-stay a.kind a.g loop.t _ _ loop.px pre.0 pre.2 taken (place_at c).0 loop.invariant.1 s h l ∙ loop.invariant.3 s h l,
    )

pub returns : goal.returns
returns c =
    let a = c.args in
    let loop = c.loop-t in
    λ l r hr hk e b laid.
    record {
      is = residue-more a.kind a.g (byte_of (λ i. bit_at l (source a.kind i % coded_bits a.kind))) a.px.now loop.px laid.is
          (λ t h. loop.invariant.2 l r hr hk e b t (omega (arith, c.loop-t-test.false))) loop.invariant.3;
    }
