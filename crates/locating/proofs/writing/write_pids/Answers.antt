-- `write_pids` meets its contract: the law `pids-writing-is`. Assumes nothing.
use mathlib.Core.Path.{sym, subst}
use Rattle.interleaving.specs.Matrix.{Inside}
use Rattle.interleaving.proofs.PositionsPM.{positions-pm}
use Rattle.locating.proofs.WritingsOf.{pids-writing-is}
use Rattle.locating.proofs.writing.write_pids.Goals as goal

pub cell_of-cell-requires : goal.cell_of-cell-requires
cell_of-cell-requires c = subst (Inside 20 16 36) (sym c.pids_position-position.ensures) (positions-pm.pids-inside _ c.requires)

pub returns : goal.returns
returns c = pids-writing-is _ _ _ c.pids_position-position.ensures c.cell_of-cell.ensures
