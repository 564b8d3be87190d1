use mathlib.Core.Path.{◌≡◌, subst}
use Prim.Native.Nat.{ℕ}
use native.Mathlib.Omega.{arith}
use Rattle.trellis.specs.Trellis.{LeastScore}
use Rattle.trellis.proofs.Walking.{first-score, more-score}
use borrow.Author.Rules.{rules}
use Rattle.trellis.proofs.lowest.Goals as goal

pub loop-r-init : goal.loop-r-init
loop-r-init c = (omega arith, first-score _)

pub loop-r-preserved : goal.loop-r-preserved
loop-r-preserved c = (omega arith, more-score _ c.loop-r.r c.loop-r.m _ c.loop-r.invariant.1 (search rules))

pub returns : goal.returns
returns c =
    let e : c.loop-r.r ≡ 64 = omega (arith, c.loop-r.invariant.0) in
    subst (λ (n : ℕ). LeastScore c.args.scores.now n c.loop-r.m) e c.loop-r.invariant.1
