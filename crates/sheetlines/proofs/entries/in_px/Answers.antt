-- `in_px` meets its contract. Assumes nothing.
use Rattle.sheetlines.proofs.entries.in_px.Goals as goal

pub returns : goal.returns
returns c = rw c.px_cell.ensures
