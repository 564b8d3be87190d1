use mathlib.Core.Path.{◌≡◌, refl, subst}
use Prim.Native.Nat.{ℕ, suc, ◌-◌}
use native.Mathlib.Omega.{arith}
use lib.ListN.{get_or}
use borrow.Author.Rules.{rules}
use Rattle.trellis.specs.Trellis.{tabled, Scored, Kept}
use Rattle.trellis.proofs.Scoring.{last-scored, step-scored, kept-none, kept_more}
use Rattle.trellis.proofs.back.Goals as goal

pub loop-k-init : goal.loop-k-init
loop-k-init c =
    let pre = c.requires in
    (omega arith, pre.0, pre.3, λ final f. (last-scored _ final _ pre.0 pre.2 f, kept-none c.args.costs.now pre.1 final _))

pub store-requires : goal.store-requires
store-requires c = (omega (arith, c.loop-k.invariant.0), c.loop-k.invariant.2)

pub step-s-requires : goal.step-s-requires
step-s-requires c =
    let loop = c.loop-k in
    let s = (loop.invariant.3 (λ q. get_or c.args.last.scores q 0) (λ q h. refl)).0 in
    (omega (arith, loop.invariant.1), omega (arith, loop.invariant.1, loop.invariant.0), c.requires.1, λ r h. omega (arith, s.low r h))

pub loop-k-preserved : goal.loop-k-preserved
loop-k-preserved c =
    let loop = c.loop-k in
    let costs = c.args.costs.now in
    let k = loop.k in
    let step = c.step-s.ensures in
    let e : suc (80 - k) ≡ 80 - (k - 1) = omega (arith, loop.invariant.0) in
    let d : 80 - k ≡ 79 - (k - 1) = omega (arith, loop.invariant.0) in
    let n : k ≡ suc (k - 1) = omega arith in (
      omega (arith, loop.invariant.0),
      omega (arith, step.0, loop.invariant.1),
      search rules,
      λ final f.
          let i = loop.invariant.3 final f in (
            subst (λ (n : ℕ). Scored (tabled costs) final n c.step-s.result) e
                (step-scored costs c.requires.1 final (80 - k) loop.s c.step-s.result i.0 step.0 step.1),
            kept_more costs c.requires.1 final (k - 1) loop.s _ _ (omega (arith, loop.invariant.0))
                (subst (λ (n : ℕ). Scored (tabled costs) final n loop.s) d i.0) (omega (arith, loop.invariant.1)) c.store.ensures
                (subst (λ (n : ℕ). Kept (tabled costs) final n loop.kept) n i.1),
          ),
    )

pub returns : goal.returns
returns c =
    let loop = c.loop-k in
    let costs = c.args.costs.now in
    let e : loop.k ≡ 0 = omega arith in
    λ final f.
    let i = loop.invariant.3 final f in
    (subst (λ (n : ℕ). Scored (tabled costs) final (80 - n) loop.s) e i.0, subst (λ (n : ℕ). Kept (tabled costs) final n loop.kept) e i.1)
