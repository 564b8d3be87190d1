-- `lengths` meets its contract. Assumes nothing.
use Rattle.runs.specs.Lengths.{pids_len, pm_len, control_len}
use Rattle.modes.proofs.lengths.Goals as goal

pub returns : goal.returns
unfolding pids_len pm_len control_len
returns c =
    rw (
      c.p1_len.ensures,
      c.p2_len.ensures,
      c.frame_len.ensures,
      c.frame_len-2.ensures,
      c.matrix_len.ensures.0,
      c.matrix_len-2.ensures.0,
      c.second_len.ensures.0,
      c.delay_len.ensures,
      c.main_of-k.ensures,
      c.kind_of-k4.ensures,
      c.kind_of-k3.ensures,
    )
