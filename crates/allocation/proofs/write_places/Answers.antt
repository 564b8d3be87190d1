use mathlib.Core.Path.{sym, ◌∙◌}
use native.Mathlib.Omega.{arith}
use Rattle.bits.proofs.Listed.{filled_none, filled-turn, filled-all}
use Rattle.allocation.proofs.write_places.Goals as goal

pub loop-q-init : goal.loop-q-init
loop-q-init c = (omega arith, filled_none 16 _ _ c.requires)

pub bounds-places-q : goal.bounds-places-q
bounds-places-q c = omega (arith, c.loop-q.invariant.1.long)

pub loop-q-preserved : goal.loop-q-preserved
loop-q-preserved c = (omega arith, filled-turn _ c.loop-q.invariant.1 c.loop-q-test.true c.owner.ensures)

pub shape_of-places : goal.shape_of-places
shape_of-places c = c.loop-q.invariant.1.long ∙ sym c.requires

pub returns : goal.returns
returns c = filled-all c.loop-q.invariant.1 c.loop-q-test.false c.loop-q.invariant.0
