-- `put_times` meets its contract. Assumes nothing.
use Rattle.text.proofs.Stored.{put_then}
use Rattle.vector_step.specs.Numbers.{exactly}
use Rattle.vector_step.proofs.numbers.put_times.Goals as goal

pub returns : goal.returns
unfolding exactly
returns c = put_then c.number-m.ensures c.put_fraction.ensures
