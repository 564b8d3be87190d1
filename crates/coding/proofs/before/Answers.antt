-- `coding::before` meets its contract. Assumes nothing.
use Prim.Native.Nat.{◌%◌}
use native.Mathlib.Nat.{div-add-mod', mod-lt}
use native.Mathlib.Omega.{arith}
use Rattle.coding.proofs.Turns.{back_inside, back-past}
use Rattle.coding.proofs.before.Goals as goal

pub overflow_add-result : goal.overflow_add-result
overflow_add-result c = let a = c.args in omega (arith, div-add-mod' a.j a.n)

pub returns-then-r-d : goal.returns-then-r-d
returns-then-r-d c =
    let a = c.args in
    omega (arith, div-add-mod' a.j a.n, back-past a.n (a.j % a.n) a.d (omega arith) (omega arith))

pub overflow_sub-result-2 : goal.overflow_sub-result-2
overflow_sub-result-2 c = let a = c.args in omega (arith, div-add-mod' a.j a.n)

pub returns : goal.returns
returns c =
    let a = c.args in
    omega (arith, div-add-mod' a.j a.n, back_inside a.n (a.j % a.n) a.d (omega arith) (mod-lt a.j (omega arith)))
