-- `column` meets its contract: the table is the definition's. Assumes nothing.
use mathlib.Core.Path.{refl}
use Rattle.subcarriers.specs.Slots.{column_table}
use Rattle.subcarriers.proofs.column.Goals as goal

pub returns : goal.returns
unfolding column_table
returns c = refl
