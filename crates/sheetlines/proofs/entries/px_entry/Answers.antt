-- `px_entry` meets its contract: the match is the definition's, and a cell in which a bit is found is one of the matrix. Assumes nothing.
use mathlib.Core.Path.{ap, ◌∙◌}
use native.Mathlib.Omega.{arith}
use Rattle.std.specs.Prelude.{Ok, Some}
use Rattle.sheetlines.proofs.Ranges.{found_as, px-in-range}
use Rattle.sheetlines.proofs.entries.px_entry.Goals as goal

pub overflow_sub-from : goal.overflow_sub-from
overflow_sub-from c =
    let e = c.in-Ok-Coded in
    omega (arith, (px-in-range _ _ _ _ _ _ _ _ (found_as _ _ _ _ _ _ c.state_before-state.ensures c.find_px.ensures.0 (e.is ∙ ap Ok e.field-0-is))).3)

pub in_px-entry-requires : goal.in_px-entry-requires
in_px-entry-requires c =
    let e = c.in-Ok-Coded in
    let h = px-in-range _ _ _ _ _ _ _ _ (found_as _ _ _ _ _ _ c.state_before-state.ensures c.find_px.ensures.0 (e.is ∙ ap Ok e.field-0-is)) in
    (h.0, h.1, h.2)

pub returns-in-Ok-Coded : goal.returns-in-Ok-Coded
returns-in-Ok-Coded c =
    let e = c.in-Ok-Coded in
    rw (found_as _ _ _ _ _ _ c.state_before-state.ensures c.find_px.ensures.0 (e.is ∙ ap Ok e.field-0-is)) (ap Some c.in_px-entry.ensures)

pub returns-in-Ok-Fill : goal.returns-in-Ok-Fill
returns-in-Ok-Fill c =
    let e = c.in-Ok-Fill in
    rw (found_as _ _ _ _ _ _ c.state_before-state.ensures c.find_px.ensures.0 (e.is ∙ ap Ok e.field-0-is))
