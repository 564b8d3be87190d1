-- `first_grants` meets its contract. Assumes nothing.
use mathlib.Core.Path.{ap, ◌∙◌}
use Prim.Native.Nat.{◌-◌}
use native.Mathlib.Omega.{arith}
use Rattle.allocation.specs.Allocation.{first, total}
use Rattle.allocation.proofs.Sums.{total-smaller}
use Rattle.allocation.proofs.first_grants.Goals as goal

pub overflow_sub-left : goal.overflow_sub-left
overflow_sub-left c = omega (arith, c.sum-used.ensures ∙ ap (total 8) c.smaller_each-given.ensures, total-smaller c.args.shares c.args.waiting 8 (omega arith), c.requires)

pub returns : goal.returns
unfolding first
returns c = λ i. record { given = c.smaller_each-given.ensures i; left = 16 - (c.sum-used.ensures ∙ ap (total 8) c.smaller_each-given.ensures) i }
