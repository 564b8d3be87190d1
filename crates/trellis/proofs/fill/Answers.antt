use mathlib.Core.Path.{refl, ap, ◌∙◌}
use Prim.Native.Nat.{ℕ, ◌<◌}
use native.Mathlib.Omega.{arith}
use lib.ListN.{get_or, length-set}
use lib.Seq.{get_or-set_other}
use borrow.Author.Rules.{rules}
use Rattle.trellis.specs.Trellis.{outputs_of}
use Rattle.trellis.proofs.Outputs.{outputs-lt}
use Rattle.trellis.proofs.Scoring.{set_at}
use Rattle.trellis.proofs.fill.Goals as goal

pub loop-w-init : goal.loop-w-init
loop-w-init c = (omega arith, search rules, λ q h. absurd (omega arith), λ n h. refl)

pub offset_bounds-costs-y : goal.offset_bounds-costs-y
offset_bounds-costs-y c =
    let loop = c.loop-w in
    let low : c.from-y.result < 8 = omega (arith, c.from-y.ensures, c.requires.1.at loop.w (omega arith), outputs-lt loop.w) in search rules

pub bounds-costs-y : goal.bounds-costs-y
bounds-costs-y c =
    let loop = c.loop-w in
    omega (arith, c.from-y.ensures, c.requires.1.at loop.w (omega arith), outputs-lt loop.w)

pub loop-w-preserved : goal.loop-w-preserved
loop-w-preserved c =
    let pre = c.requires in
    let loop = c.loop-w in
    let costs = c.args.costs.now in (
      search rules,
      simp length-set loop.invariant.1,
      set_at loop.table (λ q. get_or costs (outputs_of q) 0) _ loop.w _ (omega (arith, loop.invariant.1, pre.0))
          (ap (λ (n : ℕ). get_or costs n 0) (c.from-y.ensures ∙ pre.1.at loop.w (omega arith))) loop.invariant.2,
      λ n h. get_or-set_other loop.table _ n _ 0 (λ e. omega arith) ∙ loop.invariant.3 n h,
    )

pub returns : goal.returns
returns c = record { there = λ w h. c.loop-w.invariant.2 w (omega arith); earlier = c.loop-w.invariant.3 }
