use mathlib.Core.Path.{refl}
use native.Mathlib.Omega.{arith}
use lib.ListN.{length-set}
use Rattle.transposing.proofs.Words.{begins-turn, begins-at}
use Rattle.px_lanes.proofs.LaneLaws.{quad-found}
use borrow.Author.Rules.{rules}
use Rattle.px_lanes.proofs.four_columns.Goals as goal

pub entry_in-first-requires : goal.entry_in-first-requires
entry_in-first-requires c = omega (arith, c.requires.1, c.requires.2)

pub entry_in-second-requires : goal.entry_in-second-requires
entry_in-second-requires c = omega (arith, c.requires.1, c.requires.2)

pub entry_in-third-requires : goal.entry_in-third-requires
entry_in-third-requires c = omega (arith, c.requires.1, c.requires.2)

pub entry_in-fourth-requires : goal.entry_in-fourth-requires
entry_in-fourth-requires c =
    omega (arith, c.requires.1, c.requires.2)

pub loop-d-init : goal.loop-d-init
loop-d-init c =
    (search rules, c.requires.5, λ b. begins-at _ b (omega arith))

pub lane_of-a-requires : goal.lane_of-a-requires
lane_of-a-requires c =
    (c.requires.0, c.entry_in-first.ensures.1, c.loop-d-test.true, c.requires.3, c.requires.4)

pub lane_of-b-requires : goal.lane_of-b-requires
lane_of-b-requires c =
    (c.requires.0, c.entry_in-second.ensures.1, c.loop-d-test.true, c.requires.3, c.requires.4)

pub lane_of-c-requires : goal.lane_of-c-requires
lane_of-c-requires c =
    (c.requires.0, c.entry_in-third.ensures.1, c.loop-d-test.true, c.requires.3, c.requires.4)

pub overflow_mul-quads : goal.overflow_mul-quads
overflow_mul-quads c = omega (arith, c.lane_of-a.ensures.1)

pub overflow_mul-quads-in-loop-d : goal.overflow_mul-quads-in-loop-d
overflow_mul-quads-in-loop-d c = omega (arith, c.lane_of-b.ensures.1)

pub overflow_add-quads : goal.overflow_add-quads
overflow_add-quads c = omega (arith, c.lane_of-a.ensures.1, c.lane_of-b.ensures.1)

pub overflow_mul-quads-in-loop-d-2 : goal.overflow_mul-quads-in-loop-d-2
overflow_mul-quads-in-loop-d-2 c = omega (arith, c.lane_of-c.ensures.1)

pub overflow_add-quads-in-loop-d : goal.overflow_add-quads-in-loop-d
overflow_add-quads-in-loop-d c = omega (arith, c.lane_of-a.ensures.1, c.lane_of-b.ensures.1, c.lane_of-c.ensures.1)

pub lane_of-requires : goal.lane_of-requires
lane_of-requires c =
    (c.requires.0, c.entry_in-fourth.ensures.1, c.loop-d-test.true, c.requires.3, c.requires.4)

pub overflow_add-quads-in-loop-d-2 : goal.overflow_add-quads-in-loop-d-2
overflow_add-quads-in-loop-d-2 c =
    omega (arith, c.lane_of-a.ensures.1, c.lane_of-b.ensures.1, c.lane_of-c.ensures.1, c.lane_of.ensures.1)

pub bounds-quads-z : goal.bounds-quads-z
bounds-quads-z c =
    omega (arith, c.requires.2, c.loop-d-test.true)

pub loop-d-preserved : goal.loop-d-preserved
loop-d-preserved c =
    let a = c.args in
    let loop = c.loop-d in
    let quad = quad-found a.kind a.coded.now a.r a.z loop.d _ _ _ _ _ _ _ _ _ c.loop-d-test.true refl
    c.entry_in-first.ensures.0 c.entry_in-second.ensures.0 c.entry_in-third.ensures.0 c.entry_in-fourth.ensures.0
    c.lane_of-a.ensures.0 c.lane_of-b.ensures.0 c.lane_of-c.ensures.0 c.lane_of.ensures.0 in (
      omega (arith, c.loop-d-test.true),
      simp length-set loop.invariant.1,
      λ b. begins-at _ (begins-turn _ (loop.invariant.2 b) (rw loop.invariant.1 (bounds-quads-z c)) quad) (omega arith),
    )

pub returns : goal.returns
returns c = (c.loop-d.invariant.1, λ b. begins-at _ (c.loop-d.invariant.2 b) (omega (arith, c.loop-d.invariant.0, c.loop-d-test.false)))
