use mathlib.Core.Path.{◌≡◌}
use Prim.Native.Nat.{◌+◌, ◌*◌}
use native.Mathlib.Omega.{arith}
use Rattle.bits.specs.Bits.{written}
use Rattle.bits.proofs.Packed.{packed-as}
use borrow.Author.Rules.{rules}
use Rattle.pm.proofs.scatter_pids.Goals as goal

pub loop-m-init : goal.loop-m-init
unfolding written
loop-m-init c = (search rules, search rules, λ j. omega (arith, c.slice_known-1.given j), search rules)

pub scatter_pids_k-requires : goal.scatter_pids_k-requires
scatter_pids_k-requires c =
    (c.requires.0, c.loop-m.invariant.1, omega arith, c.pids_start-start.ensures.0, c.order-order.ensures)

pub loop-m-preserved : goal.loop-m-preserved
loop-m-preserved c =
    let loop = c.loop-m in
    let next : 20 * (loop.m + 1) ≡ 20 * loop.m + 20 = omega arith in (
      search rules,
      search rules,
      λ j. omega (arith, c.slice_known-in-loop-m-1.given j),
      rw next (c.scatter_pids_k.ensures _ loop.invariant.3),
    )

pub returns : goal.returns
returns c =
    let inv = c.loop-m.invariant in
    let all : 20 * c.loop-m.m ≡ 3200 = omega arith in
    packed-as 46080 _ _ inv.1 inv.2 (rw all at inv.3)
