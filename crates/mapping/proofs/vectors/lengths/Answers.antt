-- `lengths` meets its contract. Assumes nothing.
use Rattle.runs.specs.Lengths.{pm_len, control_len}
use Rattle.mapping.proofs.vectors.lengths.Goals as goal

pub returns : goal.returns
unfolding pm_len control_len
returns c = cc
