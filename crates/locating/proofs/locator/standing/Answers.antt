-- `standing` meets its contract. Assumes nothing.
use Rattle.interleaving.specs.Matrix.{matrix_row, matrix_column}
use Rattle.locating.specs.Locator.{standing}
use mathlib.Core.Path.{refl}
use Rattle.locating.proofs.locator.standing.Goals as goal

pub returns : goal.returns
unfolding standing matrix_row matrix_column
returns c = refl
