use mathlib.Core.Path.{◌≡◌}
use Prim.Native.Nat.{◌+◌, ◌*◌, ◌/◌, ◌≤◌, ◌<◌}
use native.Mathlib.Omega.{arith}
use Rattle.interleaving.specs.PX.{partitions}
use Rattle.px_lanes.proofs.LaneLaws.{row-sums, row_next, laid-at}
use borrow.Author.Rules.{rules}
use Rattle.px_lanes.proofs.fresh_row.Goals as goal
use Rattle.px_lanes.proofs.fresh_row.Goals.{In-loop-k}

-- the place of the byte k, and its bounds
sums : (c : In-loop-k)
    → let a = c.args in
    let k = c.loop-k.k in
    let w = 9 * (c.partitions.result / 2) in
    (w * a.r ≤ 18 * 31) × (k < 18) × (w * a.r + k < 144 * partitions a.kind) × (2 * k < 9 * partitions a.kind)
    × (2 * (w * a.r + k) ≡ 9 * partitions a.kind * a.r + 2 * k)
sums c =
    let at-partitions = c in
    let at-start = at-partitions in
    let e = at-partitions.partitions.ensures.0 in
    let a = at-start.args in
    let pre = at-start.requires in
    rw e (row-sums a.kind a.r c.loop-k.k pre.0 pre.1 (rw e at c.loop-k-test.true))

pub loop-k-init : goal.loop-k-init
loop-k-init c = (search rules, search rules, λ l b laid. laid-at _ laid (omega arith))

pub overflow_mul-w-in-loop-k : goal.overflow_mul-w-in-loop-k
overflow_mul-w-in-loop-k c = omega (arith, (sums c).0)

pub overflow_add-w : goal.overflow_add-w
overflow_add-w c = omega (arith, (sums c).0, (sums c).1)

pub fresh_turns-requires : goal.fresh_turns-requires
fresh_turns-requires c =
    (c.requires.0, (sums (goal.at.fresh_turns-requires c).In-loop-k).1, (sums (goal.at.fresh_turns-requires c).In-loop-k).2, c.loop-k.invariant.1)

pub loop-k-preserved : goal.loop-k-preserved
loop-k-preserved c =
    let a = c.args in
    let loop = c.loop-k in
    let s = sums (goal.at.loop-k-preserved c).In-loop-k in
    let g-is : 9 * (c.partitions.result / 2) * a.r + loop.k ≡ 9 * (partitions a.kind / 2) * a.r + loop.k =
    rw c.partitions.ensures.0 in (
      omega (arith, c.loop-k-test.true),
      search rules,
      λ l b laid. laid-at _ (c.fresh_turns.ensures l a.r c.requires.1 s.3 s.4 b
          (laid-at _ (loop.invariant.2 l b laid) g-is)) (omega (arith, g-is)),
    )

pub returns : goal.returns
returns c =
    let k-is : c.loop-k.k ≡ 9 * (partitions c.args.kind / 2) =
    rw (← c.partitions.ensures.0) (omega (arith, c.loop-k.invariant.0, c.loop-k-test.false)) in
    λ l b laid. laid-at _ (c.loop-k.invariant.2 l b laid) (row_next c.args.kind c.args.r c.loop-k.k c.requires.0 k-is)
