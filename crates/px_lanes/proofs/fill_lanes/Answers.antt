use native.Mathlib.Omega.{arith}
use lib.ListN.{length-set}
use Rattle.transposing.proofs.Words.{begins-none, begins-turn, begins-at}
use Rattle.px_lanes.specs.Laid.{lane_at}
use borrow.Author.Rules.{rules}
use Rattle.px_lanes.proofs.fill_lanes.Goals as goal

pub loop-i-init : goal.loop-i-init
loop-i-init c = (search rules, search rules, begins-none _ _)

pub lane-requires : goal.lane-requires
lane-requires c = (c.requires.0, omega (arith, c.loop-i-test.true, c.runs-n.ensures.0), omega arith)

pub offset_bounds-lanes-i : goal.offset_bounds-lanes-i
offset_bounds-lanes-i c = omega (arith, c.loop-i-test.true, c.runs-n.ensures.2)

pub bounds-lanes-i : goal.bounds-lanes-i
bounds-lanes-i c = omega (arith, c.loop-i-test.true, c.runs-n.ensures.2)

pub loop-i-preserved : goal.loop-i-preserved
unfolding lane_at
loop-i-preserved c =
    let loop = c.loop-i in (
      omega (arith, c.loop-i-test.true),
      simp length-set loop.invariant.1,
      begins-turn c.lane.result loop.invariant.2 (rw loop.invariant.1 (bounds-lanes-i c)) c.lane.ensures,
    )

pub returns : goal.returns
returns c = begins-at _ c.loop-i.invariant.2 (omega (arith, c.loop-i.invariant.0, c.loop-i-test.false, c.runs-n.ensures.0))
