-- `px::near4` meets its contract. Assumes nothing.
use mathlib.Core.Path.{◌≡◌}
use Prim.Native.Nat.{◌+◌, ◌-◌, ◌*◌, ◌/◌, ◌%◌}
use Rattle.bits.specs.Bits.{number}
use Rattle.px.specs.Merged.{near4}
use Rattle.px.proofs.Merging.{four-bits, near4-lt}
use Rattle.px.proofs.near4.Goals as goal

pub returns : goal.returns
unfolding near4 number
returns c =
    let e = four-bits (1 - (c.args.q + 32) % 32 / 16) (1 - (c.args.q + 29) % 32 / 16) (1 - (c.args.q + 26) % 32 / 16) (1 - (c.args.q + 23) % 32 / 16) in
    let d : 8 * c.side.result + 4 * c.side-2.result + 2 * c.side-3.result + c.side-4.result ≡ near4 c.args.q = rw (c.side.ensures.0, c.side-2.ensures.0, c.side-3.ensures.0, c.side-4.ensures.0) e in
    (d, rw d (near4-lt c.args.q))
