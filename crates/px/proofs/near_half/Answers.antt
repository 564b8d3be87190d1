-- `px::near_half` meets its contract. Assumes nothing.
use Prim.Native.Nat.{◌+◌, ◌-◌, ◌%◌}
use native.Mathlib.Omega.{arith}
use Rattle.px.proofs.Merging.{near4-lt}
use Rattle.px.proofs.near_half.Goals as goal

pub returns : goal.returns
returns c =
    let e = c.requires.2 ((c.args.t + (32 - c.args.a)) % 32) (omega arith) in
    (e, rw e (near4-lt ((c.args.t + (32 - c.args.a)) % 32)))
