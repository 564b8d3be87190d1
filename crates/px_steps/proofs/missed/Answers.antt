-- `px_steps::missed` meets its contract. Assumes nothing.
use Prim.Native.Nat.{◌≤◌}
use native.Mathlib.Nat.{mul-le-mul_right}
use native.Mathlib.Omega.{arith}
use Rattle.interleaving.specs.InverseIV.{missed}
use Rattle.px_steps.proofs.missed.Goals as goal

pub returns-then-p-eq0 : goal.returns-then-p-eq0
unfolding missed
returns-then-p-eq0 c = (rw c.if-p-eq0.true (omega arith), omega arith)

pub returns : goal.returns
unfolding missed
returns c =
    let m = c.args.m in
    let p = c.args.p in
    (omega (arith, mul-le-mul_right m (let h : 1 ≤ p = omega arith in h)), omega arith)
