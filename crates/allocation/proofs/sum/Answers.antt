use mathlib.Core.Path.{◌≡◌, sym, ap, ap₂, ◌∙◌}
use Prim.Native.Nat.{ℕ, ◌+◌}
use native.Mathlib.Omega.{arith}
use Rattle.allocation.specs.Allocation.{total}
use Rattle.allocation.proofs.Steps.{total-more, total-none}
use Rattle.allocation.proofs.sum.Goals as goal

pub loop-n-init : goal.loop-n-init
loop-n-init c = (omega arith, omega arith, total-none _)

pub loop-n-preserved : goal.loop-n-preserved
loop-n-preserved c = (omega arith, omega arith, ap₂ ◌+◌ c.loop-n.invariant.2 c.from-s.ensures ∙ sym (total-more c.loop-n.n-index _))

pub returns : goal.returns
returns c = let e : c.loop-n.n-index ≡ 8 = omega arith in c.loop-n.invariant.2 ∙ ap (λ (d : ℕ). total d c.args.numbers) e
