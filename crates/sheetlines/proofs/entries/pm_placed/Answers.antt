-- `pm_placed` meets its contract: the match is the definition's, and a cell that is located is one of PM. Assumes nothing.
use mathlib.Core.Path.{ap, sym, ◌∙◌}
use Rattle.std.specs.Prelude.{Some}
use Rattle.sheetlines.proofs.Ranges.{pm-placed-in-range}
use Rattle.sheetlines.proofs.entries.pm_placed.Goals as goal

pub in_pm-requires : goal.in_pm-requires
in_pm-requires c = pm-placed-in-range _ _ _ _ _ _ (sym c.locate.ensures.0 ∙ c.in-Ok.is)

pub returns-in-Ok : goal.returns-in-Ok
returns-in-Ok c = rw (sym c.locate.ensures.0 ∙ c.in-Ok.is) (ap Some c.in_pm.ensures)
