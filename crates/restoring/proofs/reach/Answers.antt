use mathlib.Core.Path.{◌≡◌, subst}
use Prim.Native.Nat.{ℕ, suc, ◌-◌}
use native.Mathlib.Omega.{arith}
use borrow.Author.Rules.{rules}
use Rattle.restoring.specs.Reaching.{Reached}
use Rattle.restoring.proofs.reach.Goals as goal

pub loop-j-init : goal.loop-j-init
loop-j-init c = (omega arith, search rules, c.reach_last.ensures c.args.cells.now)

pub reach_step-requires : goal.reach_step-requires
reach_step-requires c =
    let pre = c.requires in
    let loop = c.loop-j in
    let e : loop.j ≡ suc (loop.j - 1) = omega arith in
    (pre.0, omega (arith, loop.invariant.0), pre.1, loop.invariant.1, subst (λ (n : ℕ). Reached c.args.cells.now n loop.kept) e loop.invariant.2)

pub loop-j-preserved : goal.loop-j-preserved
loop-j-preserved c = (omega (arith, c.loop-j.invariant.0), search rules, c.reach_step.ensures)

pub returns : goal.returns
returns c = let e : c.loop-j.j ≡ 0 = omega arith in subst (λ (n : ℕ). Reached c.args.cells.now n c.loop-j.kept) e c.loop-j.invariant.2
