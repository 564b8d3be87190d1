-- `px_lanes::lane` meets its contract. Assumes nothing.
use Rattle.px_lanes.specs.Laid.{hex}
use Rattle.px_lanes.proofs.lane.Goals as goal

pub returns : goal.returns
unfolding hex
returns c =
    rw (
      c.lane_bit-a.ensures.0,
      c.lane_bit-b.ensures.0,
      c.lane_bit-c.ensures.0,
      c.lane_bit-d.ensures.0,
    )
