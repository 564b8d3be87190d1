-- `pm::cell_of` meets its contract: it is `cell_of` as it stands. Assumes nothing.
use mathlib.Core.Path.{refl}
use Rattle.interleaving.specs.Matrix.{matrix_row, matrix_column, cell_of}
use Rattle.pm.proofs.cell_of.Goals as goal

pub returns : goal.returns
unfolding cell_of matrix_row matrix_column
returns c = refl
