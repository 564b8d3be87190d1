-- `pm::scatter::seat` meets its contract: the two cases of `seat_of`. Assumes nothing.
use mathlib.Core.Path.{sym, ap}
use mathlib.Core.Bool.{Bool, cond}
use Prim.Native.Nat.{◌+◌, ◌-◌, ◌*◌}
use native.Mathlib.Omega.{arith}
use borrow.Author.Tests.{lt-ltb, le-ltb}
use Rattle.pm.specs.Rows.{seat_of}
use Rattle.pm.proofs.scatter.seat.Goals as goal

pub returns-then-z-lt9 : goal.returns-then-z-lt9
unfolding seat_of
returns-then-z-lt9 c =
    let a = c.args in
    (sym (ap (λ (s : Bool). cond s (320 * a.z + a.t) (320 * (a.z - 9) + a.u)) (lt-ltb a.z 9 c.if-z-lt9.true)), omega arith)

pub returns : goal.returns
unfolding seat_of
returns c =
    let a = c.args in
    (sym (ap (λ (s : Bool). cond s (320 * a.z + a.t) (320 * (a.z - 9) + a.u)) (le-ltb a.z 9 (omega arith))), omega arith)
