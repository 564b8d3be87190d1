use Prim.Native.Nat.{suc, ◌*◌, ◌-◌}
use native.Mathlib.Omega.{arith}
use lib.ListN.{length-set}
use borrow.Author.Rules.{rules}
use Rattle.trellis.proofs.Scoring.{set_at}
use Rattle.restoring.specs.Reaching.{ends}
use Rattle.restoring.proofs.Loops.{step-ends, reached-set, reached-more}
use Rattle.restoring.proofs.reach_step.Goals as goal

pub loop-r-init : goal.loop-r-init
loop-r-init c =
    let pre = c.requires in
    (omega arith, pre.3, λ q h. absurd (omega arith), pre.4)

pub beyond-zero-requires : goal.beyond-zero-requires
beyond-zero-requires c =
    let pre = c.requires in
    (pre.1, omega arith, pre.2, c.loop-r.invariant.1)

pub beyond-one-requires : goal.beyond-one-requires
beyond-one-requires c =
    let pre = c.requires in
    (pre.1, omega arith, pre.2, c.loop-r.invariant.1)

pub loop-r-preserved : goal.loop-r-preserved
loop-r-preserved c =
    let a = c.args in
    let pre = c.requires in
    let loop = c.loop-r in
    let cells = a.cells.now in
    let j = a.j in
    let eight = c.eight-costs.ensures in (
      search rules,
      simp length-set loop.invariant.1,
      set_at loop.kept (λ q. ends cells (80 - j) j q) (64 * j) loop.r _ (omega (arith, loop.invariant.1, pre.1))
          (step-ends cells j loop.r _ _ pre.1 (c.beyond-zero.ensures cells eight loop.invariant.3) (c.beyond-one.ensures cells eight loop.invariant.3))
          loop.invariant.2,
      reached-set cells (suc j) loop.kept _ _ (omega arith) loop.invariant.3,
    )

pub returns : goal.returns
returns c =
    let a = c.args in
    reached-more a.cells.now a.j c.loop-r.kept (λ q h. c.loop-r.invariant.2 q (omega arith)) c.loop-r.invariant.3
