use native.Mathlib.Omega.{arith}
use Rattle.bits.specs.Bits.{bit_at, byte_of}
use Rattle.interleaving.specs.PX.{later}
use Rattle.px_steps.proofs.Residues.{residue-more, residues-all}
use borrow.Author.Rules.{rules}
use Rattle.px_gather.proofs.gather.Goals as goal

pub loop-g-init : goal.loop-g-init
loop-g-init c = (search rules, λ t h l m. absurd (omega arith))

pub delays-delays-requires : goal.delays-delays-requires
delays-delays-requires c =
    let pre = c.requires in
    (pre.0, omega (arith, c.loop-g-test.true, c.block-size.ensures.0), c.parts-parts.ensures, c.counts-counts.ensures)

pub gather_turns-requires : goal.gather_turns-requires
gather_turns-requires c =
    let pre = c.requires in
    (pre.0, pre.1, omega (arith, c.loop-g-test.true, c.block-size.ensures.0), c.delays-delays.ensures, pre.2, c.loop-g.invariant.0)

pub loop-g-preserved : goal.loop-g-preserved
loop-g-preserved c =
    let a = c.args in
    let loop = c.loop-g in
    let f = byte_of (λ i. bit_at a.three.now (later a.kind a.half i)) in
    (search rules, residue-more a.kind loop.g f loop.coded c.gather_turns.new.coded loop.invariant.1 c.gather_turns.ensures.by_index c.gather_turns.ensures.by_index_2)

pub returns : goal.returns
returns c =
    let a = c.args in
    residues-all a.kind c.loop-g.g _ _ c.requires.0 c.loop-g.invariant.0 (omega (arith, c.loop-g-test.false, c.block-size.ensures.0)) c.loop-g.invariant.1
