-- `px_gather::later` meets its contract: the laws `later-around` and `later-ahead`. Assumes nothing.
use native.Mathlib.Omega.{arith}
use Rattle.px_gather.proofs.Delayed.{later-around, later-ahead}
use Rattle.px_gather.proofs.later.Goals as goal

pub returns-then-c-i : goal.returns-then-c-i
returns-then-c-i c = λ kind half n-is i-is c-is.
    let a = c.args in
    let pre = c.requires in
    rw n-is (later-around kind half a.j a.i a.c i-is c-is (omega arith) (omega arith) c.if-c-i.true)

pub returns : goal.returns
returns c = λ kind half n-is i-is c-is.
    let a = c.args in
    later-ahead kind half a.j a.i a.c i-is c-is (omega arith) (omega arith) c.if-c-i.false
