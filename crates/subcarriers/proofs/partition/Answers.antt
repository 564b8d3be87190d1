-- `partition` meets its contract: the table is the definition's. Assumes nothing.
use mathlib.Core.Path.{refl}
use Rattle.subcarriers.specs.Slots.{partition_table}
use Rattle.subcarriers.proofs.partition.Goals as goal

pub returns : goal.returns
unfolding partition_table
returns c = refl
