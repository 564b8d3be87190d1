use mathlib.Core.Path.{sym, ◌∙◌}
use native.Mathlib.Omega.{arith}
use Rattle.calls.specs.Called.{signal_behind}
use Rattle.bits.proofs.Listed.{filled_none, filled-stored, filled-all}
use Rattle.mapping.proofs.VectorCases.{of-mode, width1-is, width2-is, readable-is}
use Rattle.mapping.proofs.vectors.fill_points.Goals as goal

pub mode_number-n-requires : goal.mode_number-n-requires
mode_number-n-requires c = c.requires.mode-mapped

pub loop-k-init : goal.loop-k-init
loop-k-init c =
    let p = c.requires in
    (omega arith, filled_none 1093 _ _ p.re-long, filled_none 1093 _ _ p.im-long)

pub element-p-requires : goal.element-p-requires
element-p-requires c =
    let a = c.args in
    (c.mode_number-n.ensures.0, c.loop-k-test.true, width1-is a.mode c.mode_number-n.result c.mode_number-n.ensures.1 c.kind_of.ensures c.width_of-px1.ensures c.kind_of-2.ensures c.width_of-px2.ensures, width2-is a.mode c.mode_number-n.result c.mode_number-n.ensures.1 c.kind_of.ensures c.width_of-px1.ensures c.kind_of-2.ensures c.width_of-px2.ensures, readable-is a.mode c.mode_number-n.result c.mode_number-n.ensures.1 c.kind_of.ensures c.width_of-px1.ensures c.kind_of-2.ensures c.width_of-px2.ensures _ _ c.requires.readable)

pub store-requires : goal.store-requires
store-requires c = let l = c.loop-k in (omega (arith, l.invariant.1.long, c.loop-k-test.true), omega (arith, l.invariant.2.long, c.loop-k-test.true))

pub loop-k-preserved : goal.loop-k-preserved
loop-k-preserved c =
    let t = c.loop-k-test.true in
    let l = c.loop-k in
    let s = c.args in
    let n = c.mode_number-n in
    let (a, b) = of-mode s.mode n.result s.symbol s.scales.lower s.scales.upper (signal_behind s.signal.now) l.k c.element-p.result
    n.ensures.1 c.element-p.ensures in
    (omega arith, filled-stored c.store.ensures.0 l.invariant.1 t a, filled-stored c.store.ensures.1 l.invariant.2 t b)

pub shape_of-re : goal.shape_of-re
shape_of-re c = c.loop-k.invariant.1.long ∙ sym c.requires.re-long

pub shape_of-im : goal.shape_of-im
shape_of-im c = c.loop-k.invariant.2.long ∙ sym c.requires.im-long

pub returns : goal.returns
returns c = (filled-all c.loop-k.invariant.1 c.loop-k-test.false c.loop-k.invariant.0, filled-all c.loop-k.invariant.2 c.loop-k-test.false c.loop-k.invariant.0)
