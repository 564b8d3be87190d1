-- `taken` meets its contract. Assumes nothing.
use mathlib.Core.Path.{sym, ◌∙◌}
use Prim.Native.Nat.{◌-◌, ◌/◌, ◌^◌}
use native.Mathlib.Omega.{arith}
use lib.Bits.{and_mask}
use Rattle.workings.proofs.Sums.{one_of, none_of}
use Rattle.workings.proofs.taken.Goals as goal

pub returns-then-g-d-eq1 : goal.returns-then-g-d-eq1
returns-then-g-d-eq1 c =
    let a = c.args in
    (one_of _ a.x (sym (and_mask (a.g / 2 ^ (6 - a.d)) 1) ∙ c.if-g-d-eq1.true), c.requires.1)

pub returns : goal.returns
returns c =
    let a = c.args in
    (none_of _ a.x (omega arith) (λ e. c.if-g-d-eq1.false (and_mask (a.g / 2 ^ (6 - a.d)) 1 ∙ e)), omega arith)
