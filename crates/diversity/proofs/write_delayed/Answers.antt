-- `write_delayed` meets its contract: the first third of the delay memory has waited longest. Assumes nothing.
use Prim.Native.Nat.{ℕ, ◌+◌, ◌/◌}
use native.Mathlib.Omega.{arith}
use lib.ListN.{length, length-take, length-drop}
use Rattle.diversity.proofs.Delays.{none-late, thirds, first-third}
use Rattle.diversity.proofs.write_delayed.Goals as goal

pub returns-then-delay-eq0 : goal.returns-then-delay-eq0
returns-then-delay-eq0 c =
    none-late c.args.main c.args.delay.now c.requires.0 c.if-delay-eq0.true c.args.px2.now c.requires.1

pub write_second-requires : goal.write_second-requires
write_second-requires c =
    let t = thirds c.args.main c.args.delay.now c.requires.0 c.if-delay-eq0.false in
    (simp (length-take, length-drop) (omega arith), c.requires.1)

pub returns : goal.returns
returns c =
    let d = c.args.delay.now in
    let from : ℕ = c.start-from.result in
    let t = thirds c.args.main d c.requires.0 c.if-delay-eq0.false in
    first-third c.args.main d c.requires.0 c.if-delay-eq0.false _ from (from + length d / 3) c.write_second.ensures (omega arith) (omega arith)
