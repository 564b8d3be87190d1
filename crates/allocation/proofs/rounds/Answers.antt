use mathlib.Core.Path.{◌≡◌, ap, ◌∙◌}
use Prim.Native.Nat.{◌%◌}
use native.Mathlib.Omega.{arith}
use Rattle.allocation.specs.Allocation.{granted, turn, turns}
use Rattle.allocation.proofs.Steps.{turns_more, turns-none}
use Rattle.allocation.proofs.rounds.Goals as goal

pub loop-n-init : goal.loop-n-init
loop-n-init c = (omega arith, λ shares e. e ∙ turns-none shares _)

pub loop-n-preserved : goal.loop-n-preserved
loop-n-preserved c = (omega arith, λ shares e. c.turn_of-s.ensures ∙ ap (turn _ (c.loop-n.n % 8)) (c.loop-n.invariant.1 shares e) ∙ turns_more shares _ c.loop-n.n)

pub returns : goal.returns
unfolding granted
returns c = λ shares e. c.loop-n.invariant.1 shares e ∙ ap (turns shares _) (let z : c.loop-n.n ≡ 128 = omega arith in z)
