use mathlib.Core.Path.{◌≡◌}
use Prim.Native.Nat.{ℕ}
use native.Mathlib.Omega.{arith}
use mathlib.Core.Path.{subst}
use Rattle.trellis.specs.Trellis.{tabled}
use Rattle.decoding.specs.Starts.{BestStart}
use Rattle.decoding.proofs.Starts.{first-start, more-start}
use Rattle.decoding.proofs.best_start.Goals as goal

pub loop-e-init : goal.loop-e-init
loop-e-init c = (omega (arith, c.requires.0), first-start _, c.score.ensures)

pub score-distance-requires : goal.score-distance-requires
score-distance-requires c = (omega (arith, c.requires.1), c.requires.2)

pub loop-e-preserved : goal.loop-e-preserved
loop-e-preserved c =
    let loop = c.loop-e in
    let more = more-start (tabled c.args.costs.now) loop.e loop.best loop.invariant.1 loop.invariant.2 _ c.nearer-best.result c.score-distance.ensures c.nearer-best.ensures in
    (omega arith, more.0, more.1)

pub returns : goal.returns
returns c =
    let e : c.loop-e.e ≡ c.args.budget = omega (arith, c.loop-e.invariant.0) in
    (subst (λ (n : ℕ). BestStart (tabled c.args.costs.now) n c.loop-e.best.e) e c.loop-e.invariant.1, c.loop-e.invariant.2)
