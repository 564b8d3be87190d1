-- `first_delayed` meets its contract. Assumes nothing.
use native.Mathlib.Omega.{arith}
use Rattle.runs.proofs.Bounds.{second-le}
use Rattle.recover.proofs.Mains.{delayed-judged, delayed-none}
use Rattle.recover.proofs.first_delayed.Goals as goal

pub first_one-requires : goal.first_one-requires
first_one-requires c = omega (arith, c.requires, second-le c.args.main)

pub returns-then-age-delay_frames : goal.returns-then-age-delay_frames
returns-then-age-delay_frames c =
    let a = c.args in
    delayed-judged a.main a.age a.second.now c.requires _ _ c.delay_frames.ensures c.if-age-delay_frames.true c.first_one.ensures

pub overflow_mul-result : goal.overflow_mul-result
overflow_mul-result c = record { fits = omega (arith, c.requires, second-le c.args.main) }

pub returns : goal.returns
returns c =
    let a = c.args in
    delayed-none a.main a.age a.second.now c.requires _ c.delay_frames.ensures c.if-age-delay_frames.false
