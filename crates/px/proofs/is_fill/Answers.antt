-- `px::is_fill` meets its contract: the laws `fill_if` and `fill-not`. Assumes nothing.
use mathlib.Core.Path.{refl, ◌∙◌}
use native.Mathlib.Omega.{arith}
use Rattle.px.proofs.Frames.{fill_if, fill-not}
use Rattle.px.proofs.is_fill.Goals as goal

pub returns-then-get-eq1 : goal.returns-then-get-eq1
returns-then-get-eq1 c =
    let a = c.args in
    let i = c.step_of in
    let bit = c.get in
    c.unwritten.ensures
    ∙ fill_if a.kind a.half _ a.j c.requires.0 i.result _ i.ensures.0 i.ensures.1 refl bit.result bit.ensures c.if-get-eq1.true

pub returns : goal.returns
returns c =
    let a = c.args in
    fill-not a.kind a.half _ a.j c.get.result c.get.ensures (λ e. omega arith)
