-- `bit_at` meets its contract. Assumes nothing.
use Prim.Native.Nat.{◌-◌, ◌/◌, ◌%◌, ◌^◌}
use native.Mathlib.Nat.{zero-div}
use lib.ListN.{get_or-eq_default}
use Rattle.bits.specs.Bits.{bit_at}
use Rattle.sheetlines.proofs.values.bit_at.Goals as goal

pub returns : goal.returns
unfolding bit_at
returns c =
    let a = c.args in
    rw (get_or-eq_default a.matrix.now 0 {n = a.cell / 8} c.if-cell-matrix.false, zero-div (2 ^ (7 - a.cell % 8)))
