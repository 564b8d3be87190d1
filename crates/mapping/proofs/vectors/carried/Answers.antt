-- `carried` meets its contract: the case of the source. Assumes nothing.
use mathlib.Core.Path.{sym, ap, ◌∙◌}
use native.Mathlib.Omega.{arith}
use lib.Ieee.{of_bits}
use Rattle.calls.specs.Called.{signal_behind}
use Rattle.subcarriers.specs.declared.Source.{Source}
use Rattle.points.specs.Points.{no_point}
use Rattle.mapping.specs.Vector.{point_for}
use Rattle.mapping.proofs.Rows.{small, pm-in, px1-in, px2-in, control-in}
use Rattle.mapping.proofs.vectors.carried.Goals as goal

pub overflow_add-symbol : goal.overflow_add-symbol
overflow_add-symbol c =
    let p = c.requires in
    omega (arith, pm-in p.0 _ p.1 _ c.in-Pm.is, p.0.pm-long)

pub pair-requires : goal.pair-requires
pair-requires c =
    let p = c.requires in
    (pm-in p.0 _ p.1 _ c.in-Pm.is, omega (arith, pm-in p.0 _ p.1 _ c.in-Pm.is, p.0.pm-long))

pub overflow_mul-symbol-in-Px1 : goal.overflow_mul-symbol-in-Px1
overflow_mul-symbol-in-Px1 c =
    let p = c.requires in
    omega (arith, small _ _ p.0.symbol-lt p.0.narrow1)

pub overflow_add-symbol-in-Px1 : goal.overflow_add-symbol-in-Px1
overflow_add-symbol-in-Px1 c =
    let p = c.requires in
    omega (arith, px1-in p.0 _ p.1 _ c.in-Px1.is, p.0.px1-long, p.0.narrow1)

pub pair-requires-in-Px1 : goal.pair-requires-in-Px1
pair-requires-in-Px1 c =
    let p = c.requires in
    (px1-in p.0 _ p.1 _ c.in-Px1.is, omega (arith, px1-in p.0 _ p.1 _ c.in-Px1.is, p.0.px1-long, p.0.narrow1))

pub overflow_mul-symbol-in-Px2 : goal.overflow_mul-symbol-in-Px2
overflow_mul-symbol-in-Px2 c =
    let p = c.requires in
    omega (arith, small _ _ p.0.symbol-lt p.0.narrow2)

pub overflow_add-symbol-in-Px2 : goal.overflow_add-symbol-in-Px2
overflow_add-symbol-in-Px2 c =
    let p = c.requires in
    omega (arith, px2-in p.0 _ p.1 _ c.in-Px2.is, p.0.px2-long, p.0.narrow2)

pub pair-requires-in-Px2 : goal.pair-requires-in-Px2
pair-requires-in-Px2 c =
    let p = c.requires in
    (px2-in p.0 _ p.1 _ c.in-Px2.is, omega (arith, px2-in p.0 _ p.1 _ c.in-Px2.is, p.0.px2-long, p.0.narrow2))

pub overflow_add-symbol-in-Control : goal.overflow_add-symbol-in-Control
overflow_add-symbol-in-Control c =
    let p = c.requires in
    omega (arith, control-in p.0 _ p.1 _ c.in-Control.is, p.0.control-long)

pub single-requires : goal.single-requires
single-requires c =
    let p = c.requires in
    control-in p.0 _ p.1 _ c.in-Control.is

pub returns-in-Unused : goal.returns-in-Unused
unfolding point_for no_point of_bits
returns-in-Unused c =
    let a = c.args in
    let g = signal_behind a.signal.now in
    ap (λ (x : Source). point_for a.symbol a.widths.px1 a.widths.px2 g x a.scale) (sym c.in-Unused.is)

pub returns-in-Pm : goal.returns-in-Pm
unfolding point_for
returns-in-Pm c =
    let a = c.args in
    let g = signal_behind a.signal.now in
    c.pair.ensures ∙ ap (λ (x : Source). point_for a.symbol a.widths.px1 a.widths.px2 g x a.scale) (sym c.in-Pm.is)

pub returns-in-Px1 : goal.returns-in-Px1
unfolding point_for
returns-in-Px1 c =
    let a = c.args in
    let g = signal_behind a.signal.now in
    c.pair-in-Px1.ensures ∙ ap (λ (x : Source). point_for a.symbol a.widths.px1 a.widths.px2 g x a.scale) (sym c.in-Px1.is)

pub returns-in-Px2 : goal.returns-in-Px2
unfolding point_for
returns-in-Px2 c =
    let a = c.args in
    let g = signal_behind a.signal.now in
    c.pair-in-Px2.ensures ∙ ap (λ (x : Source). point_for a.symbol a.widths.px1 a.widths.px2 g x a.scale) (sym c.in-Px2.is)

pub returns-in-Control : goal.returns-in-Control
unfolding point_for
returns-in-Control c =
    let a = c.args in
    let g = signal_behind a.signal.now in
    c.single.ensures ∙ ap (λ (x : Source). point_for a.symbol a.widths.px1 a.widths.px2 g x a.scale) (sym c.in-Control.is)
