use mathlib.Core.Path.{◌≡◌, refl, subst}
use Prim.Native.Nat.{ℕ, suc, ◌-◌}
use native.Mathlib.Omega.{arith}
use lib.ListN.{get_or}
use Rattle.trellis.specs.Trellis.{tabled, Scored}
use Rattle.trellis.proofs.Scoring.{last-scored, step-scored}
use Rattle.trellis.proofs.scored.Goals as goal

pub loop-k-init : goal.loop-k-init
loop-k-init c = (omega arith, c.requires.0, λ final f. last-scored _ final _ c.requires.0 c.requires.2 f)

pub step-s-requires : goal.step-s-requires
step-s-requires c =
    let loop = c.loop-k in
    let s = loop.invariant.2 (λ q. get_or c.args.last.scores q 0) (λ q h. refl) in
    (omega (arith, loop.invariant.1), omega (arith, loop.invariant.1, loop.invariant.0), c.requires.1, λ r h. omega (arith, s.low r h))

pub loop-k-preserved : goal.loop-k-preserved
loop-k-preserved c =
    let loop = c.loop-k in
    let k = loop.k in
    let costs = c.args.costs.now in
    let step = c.step-s.ensures in
    let e : suc (80 - k) ≡ 80 - (k - 1) = omega (arith, loop.invariant.0) in (
      omega (arith, loop.invariant.0),
      omega (arith, step.0, loop.invariant.1),
      λ final f.
          subst (λ (n : ℕ). Scored (tabled costs) final n c.step-s.result) e
          (step-scored costs c.requires.1 final (80 - k) loop.s c.step-s.result (loop.invariant.2 final f) step.0 step.1),
    )

pub returns : goal.returns
returns c =
    let loop = c.loop-k in
    let e : loop.k ≡ 0 = omega arith in
    λ final f. subst (λ (n : ℕ). Scored (tabled c.args.costs.now) final (80 - n) loop.s) e (loop.invariant.2 final f)
