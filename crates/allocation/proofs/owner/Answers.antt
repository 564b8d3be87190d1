use mathlib.Core.Path.{refl, sym, subst, ap, ◌∙◌}
use Prim.Native.Nat.{ℕ, ◌+◌, ◌-◌, ◌≤◌, ◌<◌}
use native.Mathlib.Omega.{arith}
use Rattle.allocation.specs.Owners.{owner_of}
use Rattle.allocation.proofs.Steps.{here, further, nobody}
use Rattle.allocation.proofs.owner.Goals as goal

pub loop-d-init : goal.loop-d-init
loop-d-init c = (omega arith, refl)

pub returns-then-rest-n : goal.returns-then-rest-n
returns-then-rest-n c =
    sym (c.loop-d.invariant.1 ∙ here _ _ _ c.loop-d-test.true (subst (λ (n : ℕ). c.loop-d.rest < n) c.from-n.ensures c.if-rest-n.true))

pub loop-d-preserved : goal.loop-d-preserved
loop-d-preserved c =
    (omega arith, c.loop-d.invariant.1 ∙ further _ _ _ c.loop-d-test.true (subst (λ (n : ℕ). n ≤ c.loop-d.rest) c.from-n.ensures c.if-rest-n.false) ∙ ap (λ (n : ℕ). owner_of (8 - (c.loop-d.d + 1)) (c.loop-d.d + 1) c.args.given (c.loop-d.rest - n)) (sym c.from-n.ensures))

pub returns : goal.returns
returns c = sym (c.loop-d.invariant.1 ∙ nobody _ _ _ c.loop-d-test.false)
