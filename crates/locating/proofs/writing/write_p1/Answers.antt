-- `write_p1` meets its contract: the law `p1-writing-is`. Assumes nothing.
use mathlib.Core.Path.{sym, subst}
use Rattle.interleaving.specs.Matrix.{Inside}
use Rattle.interleaving.proofs.PositionsPM.{positions-pm}
use Rattle.locating.proofs.WritingsOf.{p1-writing-is}
use Rattle.locating.proofs.writing.write_p1.Goals as goal

pub cell_of-cell-requires : goal.cell_of-cell-requires
cell_of-cell-requires c = subst (Inside 20 16 36) (sym c.p1_position-position.ensures) (positions-pm.p1-inside _ c.requires)

pub returns : goal.returns
returns c = p1-writing-is _ _ _ c.p1_position-position.ensures c.cell_of-cell.ensures
