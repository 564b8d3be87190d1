-- `share_places` meets its contract: the case that the tests chose. Assumes nothing.
use mathlib.Core.Path.{ap, subst}
use Prim.Native.Nat.{ℕ, ◌≤◌}
use native.Mathlib.Omega.{arith}
use Rattle.allocation.specs.declared.Grants.{Grants}
use Rattle.allocation.proofs.Outcomes.{wrong-length, too_many, done}
use Rattle.allocation.proofs.share_places.Goals as goal

pub returns-then-places-ne16 : goal.returns-then-places-ne16
returns-then-places-ne16 c = wrong-length _ _ _ c.if-places-ne16.true

pub returns-then-sum-gt16 : goal.returns-then-sum-gt16
returns-then-sum-gt16 c = too_many _ _ _ (omega arith) (omega arith)

pub returns : goal.returns
returns c =
    done _ _ _ c.if-places-ne16.false (subst (λ (n : ℕ). n ≤ 16) c.sum.ensures c.if-sum-gt16.false) _ _ c.write_places.ensures
    (ap (λ (s : Grants). s.given) (c.rounds-s.ensures _ c.first_grants.ensures))
