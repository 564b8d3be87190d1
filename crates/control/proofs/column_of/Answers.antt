use mathlib.Core.Path.{refl}
use Prim.Native.Nat.{◌-◌, ◌/◌, ◌^◌}
use native.Mathlib.Omega.{arith}
use lib.Bits.{bit_xor, and_le_r}
use Rattle.bits.specs.Bits.{number}
use Rattle.control.proofs.Packing.{encoded-turn, encoded-rows-lt}
use Rattle.control.proofs.column_of.Goals as goal

pub loop-row-init : goal.loop-row-init
unfolding number
loop-row-init c = refl

pub overflow_mul-y : goal.overflow_mul-y
overflow_mul-y c =
    let a = c.args in
    omega (arith, encoded-rows-lt a.mode a.count a.reserved a.column c.loop-row.row 31 (omega arith))

pub overflow_add-y : goal.overflow_add-y
overflow_add-y c =
    let a = c.args in
    let loop = c.loop-row in
    let x = c.sequence_of-x.result in
    omega (
      arith,
      and_le_r (bit_xor loop.y (x / 2 ^ (31 - loop.row))) 1,
      encoded-rows-lt a.mode a.count a.reserved a.column loop.row 31 (omega arith),
    )

pub loop-row-preserved : goal.loop-row-preserved
loop-row-preserved c =
    let a = c.args in
    let s = c.sequence_of-x in
    let loop = c.loop-row in
    encoded-turn a.mode a.count a.reserved a.column loop.row s.result loop.y (omega arith) s.ensures loop.invariant
