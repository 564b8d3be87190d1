-- `coding::coded_unit` meets its contract: the law `unit-coded`. Assumes nothing.
use mathlib.Core.Path.{sym, ap, ◌∙◌}
use Prim.Native.Nat.{ℕ, ◌*◌}
use native.Mathlib.Omega.{arith}
use Rattle.bits.specs.Bits.{number, bit_at}
use Rattle.bits.proofs.Numbers.{number-cong, number_lt}
use Rattle.bits.proofs.Packed.{bit_at_lt}
use Rattle.coding.specs.Units.{group_size, unit_coded, word_of}
use Rattle.coding.proofs.Places.{twice, unit-byte, unit-inside, unit-within}
use Rattle.coding.proofs.Turns.{around-bit}
use Rattle.coding.proofs.CodedUnits.{unit-coded}
use Rattle.coding.proofs.coded_unit.Goals as goal

pub overflow_mul-u : goal.overflow_mul-u
overflow_mul-u c =
    let a = c.args in
    omega (arith, twice a.n a.u c.requires.bound.0 c.requires.bound.1, unit-inside a.n a.u c.requires.bound.0 c.requires.bound.1)

pub overflow_mul-v : goal.overflow_mul-v
overflow_mul-v c =
    let a = c.args in
    omega (arith, c.requires.bound.3, twice a.n a.u c.requires.bound.0 c.requires.bound.1, unit-inside a.n a.u c.requires.bound.0 c.requires.bound.1)

pub around-requires : goal.around-requires
around-requires c =
    let a = c.args in (
      unit-within a.n a.u c.requires.bound.0 c.requires.bound.1 a.frames.now c.requires.bound.2,
      ap (λ (v : ℕ). 2 * v) c.requires.bound.3
          ∙ sym (unit-byte a.n a.u c.requires.bound.0 c.requires.bound.1),
    )

pub unit_coded-requires : goal.unit_coded-requires
unit_coded-requires c =
    let a = c.args in
    let f : ℕ → ℕ = bit_at a.frames.now in
    (c.requires.words, rw c.around.ensures (number_lt 24 _ (λ i _. around-bit a.n (2 * a.u) 1 f (bit_at_lt a.frames.now) i)))

pub returns : goal.returns
unfolding word_of
returns c =
    let a = c.args in
    let f : ℕ → ℕ = bit_at a.frames.now in
    c.unit_coded.ensures
    ∙ ap (λ (x : ℕ). number (8 * group_size a.rate) (unit_coded a.rate x)) c.around.ensures
    ∙ number-cong _ _ _ (unit-coded a.rate a.n a.u f c.requires.bound.0 c.requires.bound.1 (bit_at_lt a.frames.now))
