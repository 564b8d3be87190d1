-- `control::first_departing` meets its contract. Assumes nothing.
use mathlib.Core.Path.{ap, ◌∙◌}
use Prim.Native.Nat.{ℕ}
use Rattle.bits.specs.Tests.{lowest}
use Rattle.control.specs.Departs.{departs, strays}
use Rattle.control.proofs.first_departing.Goals as goal

pub returns-clause-lowest : goal.returns-clause-lowest
unfolding strays
returns-clause-lowest c =
    let a = c.args in
    c.departing_from.ensures.lowest ∙ ap (λ (z : ℕ). lowest 16 (departs a.mode z a.control.now)) c.number_in-reserved.ensures.0
