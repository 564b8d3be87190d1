-- `pm::p1_cell` meets its contract: the cell of the bit's position. Assumes nothing.
use mathlib.Core.Path.{sym, ap, subst, ◌∙◌}
use Rattle.interleaving.specs.Matrix.{Inside, cell_of}
use Rattle.interleaving.proofs.OncePM.{p1-inside}
use Rattle.pm.proofs.p1_cell.Goals as goal

pub cell_of-requires : goal.cell_of-requires
cell_of-requires c = subst (Inside 20 16 36) (sym c.p1_position.ensures) (p1-inside _ c.requires)

pub returns : goal.returns
returns c = c.cell_of.ensures ∙ ap (cell_of 20 36) c.p1_position.ensures
