-- `locate_pids` meets its contract: the case that the tests chose. Assumes nothing.
use mathlib.Core.Path.{ap, sym, subst, ◌∙◌}
use native.Mathlib.Omega.{arith}
use Rattle.std.specs.Prelude.{Ok}
use Rattle.interleaving.specs.Matrix.{Inside}
use Rattle.interleaving.proofs.PositionsPM.{positions-pm}
use Rattle.locating.specs.Locator.{standing}
use Rattle.locating.proofs.CasesPM.{pids-frame-out, pids-bit-out, pids-in}
use Rattle.locating.proofs.locator.locate_pids.Goals as goal

pub returns-then-frame-ge16 : goal.returns-then-frame-ge16
returns-then-frame-ge16 c = pids-frame-out _ _ c.if-frame-ge16.true

pub returns-then-bit-ge200 : goal.returns-then-bit-ge200
returns-then-bit-ge200 c = pids-bit-out _ _ c.if-frame-ge16.false c.if-bit-ge200.true

pub standing-requires : goal.standing-requires
standing-requires c =
    subst (Inside 20 16 36) (sym c.pids_position.ensures) (positions-pm.pids-inside _ (omega arith))

pub returns : goal.returns
returns c =
    ap Ok (c.standing.ensures ∙ ap standing c.pids_position.ensures) ∙ pids-in _ _ c.if-frame-ge16.false c.if-bit-ge200.false
