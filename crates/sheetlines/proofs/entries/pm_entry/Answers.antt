-- `pm_entry` meets its contract: the match is the definition's, and a cell that is found is one of PM. Assumes nothing.
use mathlib.Core.Path.{ap, sym}
use Rattle.std.specs.Prelude.{Some}
use Rattle.sheetlines.proofs.Ranges.{p1-in-range, pids-in-range}
use Rattle.sheetlines.proofs.entries.pm_entry.Goals as goal

pub in_pm-requires : goal.in_pm-requires
in_pm-requires c =
    let e = rw c.in-Ok-P1.field-0-is at c.in-Ok-P1.ensures in
    p1-in-range _ _ _ (sym e.0)

pub in_pm-requires-in-Ok-Pids : goal.in_pm-requires-in-Ok-Pids
in_pm-requires-in-Ok-Pids c =
    let e = rw c.in-Ok-Pids.field-0-is at c.in-Ok-Pids.ensures in
    pids-in-range _ _ _ _ (sym e.0)

pub returns-in-Ok-P1 : goal.returns-in-Ok-P1
returns-in-Ok-P1 c =
    let e = rw c.in-Ok-P1.field-0-is at c.in-Ok-P1.ensures in
    rw (sym e.0) (ap Some c.in_pm.ensures)

pub returns-in-Ok-Pids : goal.returns-in-Ok-Pids
returns-in-Ok-Pids c =
    let e = rw c.in-Ok-Pids.field-0-is at c.in-Ok-Pids.ensures in
    rw (sym e.0) (ap Some c.in_pm-in-Ok-Pids.ensures)
