-- `pm::shown` meets its contract: it is `shown_of` as it stands. Assumes nothing.
use mathlib.Core.Path.{ap}
use Prim.Native.Nat.{ℕ, ◌+◌, ◌-◌, ◌*◌, ◌%◌}
use native.Mathlib.Omega.{arith}
use Rattle.pm.specs.Rows.{shown_of}
use Rattle.pm.proofs.shown.Goals as goal

pub returns : goal.returns
unfolding shown_of
returns c =
    let a = c.args in
    (ap (λ (s : ℕ). 20 * ((a.b + (16 - a.p * 7 % 16)) % 16) + s) c.turn.ensures.0, omega arith)
