-- `working` meets its contract: nothing lent for P3 or P4 means zeros. Assumes nothing.
use mathlib.Core.Path.{◌∙◌}
use Prim.Native.Nat.{◌≤◌}
use native.Mathlib.Omega.{arith}
use Rattle.workings.proofs.Meant.{bits-few, meant-main, meant-some, meant-none, worked-by, front-zeros, front_long}
use Rattle.workings.proofs.working.Goals as goal
use Rattle.workings.proofs.working.Goals.{After-bits_of-n}

-- a channel numbered 3 or more has at most that many bits
zeros-enough : (c : After-bits_of-n) → c.bits_of-n.result ≤ 4608
zeros-enough c =
    let a = c.args in
    omega (arith, c.bits_of-n.ensures.0, bits-few a.state.mode a.channel c.if-channel-lt3.false)

pub returns-then-channel-lt3 : goal.returns-then-channel-lt3
returns-then-channel-lt3 c = c.work_out.ensures ∙ worked-by _ _ _ _ _ _ (meant-main _ _ _ c.if-channel-lt3.true)

pub returns-then-frames-ne0 : goal.returns-then-frames-ne0
returns-then-frames-ne0 c = c.work_out-then-frames-ne0.ensures ∙ worked-by _ _ _ _ _ _ (meant-some _ _ c.if-channel-lt3.false _ c.if-frames-ne0.true)

pub slice_bounds-zeros-end : goal.slice_bounds-zeros-end
slice_bounds-zeros-end c = zeros-enough c

pub slice_bounds-work_out-end : goal.slice_bounds-work_out-end
slice_bounds-work_out-end c = front_long _ 4608 (zeros-enough (goal.at.slice_bounds-work_out-end c).After-bits_of-n)

pub returns : goal.returns
returns c =
    c.work_out-2.ensures
    ∙ worked-by _ _ _ _ _ _
    (front-zeros _ 4608 (zeros-enough (goal.at.returns c).After-bits_of-n) ∙ meant-none _ _ c.if-channel-lt3.false _ c.if-frames-ne0.false _ c.bits_of-n.ensures.0)
