use Rattle.std.proofs.Common.{◌-◌, get_or, arith}
use Rattle.text.specs.Numbers.{value}
use Rattle.scales.proofs.Digits.{below_power, digit-here, digits-rest, power-more, short-digits, value-end, value-next, value-start}
use Rattle.scales.proofs.worth.Goals as goal

pub loop-byte-init : goal.loop-byte-init
loop-byte-init c =
    let t = short-digits 16 _ c.requires in
    (t.1, omega arith, t.0, value-start _)

pub overflow_mul-n : goal.overflow_mul-n
overflow_mul-n c = omega (arith, below_power c.loop-byte.n c.loop-byte.byte-index c.loop-byte.invariant.1 (omega arith))

pub overflow_sub-byte : goal.overflow_sub-byte
overflow_sub-byte c =
    omega (arith, (digit-here c.args.text.now c.loop-byte.byte-index c.loop-byte-test.true c.loop-byte.invariant.2).0)

pub overflow_add-n : goal.overflow_add-n
overflow_add-n c =
    let d = digit-here c.args.text.now c.loop-byte.byte-index c.loop-byte-test.true c.loop-byte.invariant.2 in
    omega (arith, below_power c.loop-byte.n c.loop-byte.byte-index c.loop-byte.invariant.1 (omega arith), d.0, d.1)

pub loop-byte-preserved : goal.loop-byte-preserved
loop-byte-preserved c =
    let text = c.args.text.now in
    let i = c.loop-byte.byte-index in
    let d = digit-here text i c.loop-byte-test.true c.loop-byte.invariant.2 in
    rw c.from.ensures (
      c.loop-byte.invariant.0,
      power-more c.loop-byte.n (get_or text i 0 - 48) i c.loop-byte.invariant.1 (omega (arith, d.1)),
      digits-rest text i c.loop-byte-test.true c.loop-byte.invariant.2,
      value-next text c.loop-byte.n i c.loop-byte-test.true (value text) c.loop-byte.invariant.3,
    )

pub returns : goal.returns
returns c =
    let text = c.args.text.now in
    value-end text c.loop-byte.n c.loop-byte.byte-index (omega arith) (value text) c.loop-byte.invariant.3
