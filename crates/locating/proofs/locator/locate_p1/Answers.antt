-- `locate_p1` meets its contract: the case that the tests chose. Assumes nothing.
use mathlib.Core.Path.{ap, sym, subst, ◌∙◌}
use Rattle.std.specs.Prelude.{Ok}
use Rattle.interleaving.specs.Matrix.{Inside}
use Rattle.interleaving.proofs.PositionsPM.{positions-pm}
use Rattle.locating.specs.Locator.{standing}
use Rattle.locating.proofs.CasesPM.{p1-frame-out, p1-bit-out, p1-in}
use Rattle.locating.proofs.locator.locate_p1.Goals as goal

pub returns-then-frame-ge1 : goal.returns-then-frame-ge1
returns-then-frame-ge1 c = p1-frame-out _ _ c.if-frame-ge1.true

pub returns-then-bit-ge365440 : goal.returns-then-bit-ge365440
returns-then-bit-ge365440 c = p1-bit-out _ _ c.if-frame-ge1.false c.if-bit-ge365440.true

pub standing-requires : goal.standing-requires
standing-requires c =
    subst (Inside 20 16 36) (sym c.p1_position.ensures) (positions-pm.p1-inside _ c.if-bit-ge365440.false)

pub returns : goal.returns
returns c =
    ap Ok (c.standing.ensures ∙ ap standing c.p1_position.ensures) ∙ p1-in _ _ c.if-frame-ge1.false c.if-bit-ge365440.false
