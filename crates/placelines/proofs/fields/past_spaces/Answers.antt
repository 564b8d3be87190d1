use mathlib.Core.Path.{◌≡◌, ap, ◌∙◌}
use Prim.Native.Nat.{ℕ}
use native.Mathlib.Omega.{arith}
use Rattle.placelines.specs.Read.{after_spaces}
use Rattle.placelines.proofs.Numbers.{spaces-none, spaces-more}
use Rattle.placelines.proofs.fields.past_spaces.Goals as goal

pub loop-i-init : goal.loop-i-init
loop-i-init c = (omega arith, omega arith, spaces-none _)

pub loop-i-preserved : goal.loop-i-preserved
loop-i-preserved c =
    (omega arith, c.past_space-at.ensures.0, spaces-more c.args.line.now c.loop-i.at c.past_space-at.result c.loop-i.i c.past_space-at.ensures.1 c.loop-i.invariant.2)

pub returns : goal.returns
returns c =
    let e : c.loop-i.i ≡ c.args.k = omega arith in
    (c.loop-i.invariant.1, c.loop-i.invariant.2 ∙ ap (λ (n : ℕ). after_spaces n c.args.line.now) e)
