-- `element` meets its contract: what it carries is in the rows. Assumes nothing.
use mathlib.Core.Path.{◌∙◌}
use Rattle.calls.specs.Called.{signal_behind}
use Rattle.mapping.proofs.VectorCases.{inside_is, pieced}
use Rattle.mapping.proofs.vectors.element.Goals as goal

pub carried-requires : goal.carried-requires
carried-requires c =
    let a = c.args in
    let p = c.requires in
    (p.4, inside_is a.n a.k _ _ _ c.source_of-s.ensures p.2 p.3 p.0 p.1)

pub returns : goal.returns
returns c =
    let a = c.args in
    let p = c.requires in
    let g = signal_behind a.signal.now in
    c.carried.ensures
    ∙ pieced a.n a.k _ _ _ c.source_of-s.ensures p.2 p.3 a.symbol a.scales.lower a.scales.upper
    g _ c.scale_at-scale.ensures
