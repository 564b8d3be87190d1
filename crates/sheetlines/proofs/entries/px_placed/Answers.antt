-- `px_placed` meets its contract: the match is the definition's, and a cell that is located is one of the matrix, at most two L1 frames later. Assumes nothing.
use mathlib.Core.Path.{ap}
use native.Mathlib.Omega.{arith}
use Rattle.std.specs.Prelude.{Some}
use Rattle.sheetlines.proofs.Ranges.{located-as, px-placed-in-range}
use Rattle.sheetlines.proofs.entries.px_placed.Goals as goal

pub overflow_add-sent : goal.overflow_add-sent
overflow_add-sent c = omega (arith, (px-placed-in-range _ _ _ _ _ _ _ _ (located-as _ _ _ _ _ c.state_before-state.ensures c.locate_px.ensures.0 c.in-Ok.is)).0)

pub in_px-entry-requires : goal.in_px-entry-requires
in_px-entry-requires c = let h = px-placed-in-range _ _ _ _ _ _ _ _ (located-as _ _ _ _ _ c.state_before-state.ensures c.locate_px.ensures.0 c.in-Ok.is) in
    (h.1, h.2, h.3)

pub returns-in-Ok : goal.returns-in-Ok
returns-in-Ok c = rw (located-as _ _ _ _ _ c.state_before-state.ensures c.locate_px.ensures.0 c.in-Ok.is) (ap Some c.in_px-entry.ensures)
