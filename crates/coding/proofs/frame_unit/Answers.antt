-- `coding::frame_unit` meets its contract, for each rate by its size: the law `unit-bits`. Assumes nothing.
use mathlib.Core.Path.{◌≡◌, sym, ap, ◌∙◌}
use Prim.Native.Nat.{ℕ}
use native.Mathlib.Omega.{arith}
use Rattle.bits.specs.Bits.{bit_at}
use Rattle.bits.proofs.Packed.{bit_at_lt}
use Rattle.coding.specs.Units.{group_size}
use Rattle.coding.proofs.Places.{unit-around}
use Rattle.coding.proofs.FrameUnits.{unit-word, window-lt}
use Rattle.coding.proofs.frame_unit.Goals as goal

pub overflow_mul-n : goal.overflow_mul-n
overflow_mul-n c =
    let a = c.args in
    let pre = c.requires.bound in
    let at = unit-around a.n a.u a.v 5 a.coded.now pre.0 pre.1 pre.3 (omega arith) (omega arith)
    (rw c.in-TwoFifths.is at pre.2) in
    omega (arith, at.whole, c.well_formed.1.1.1.0)

pub overflow_mul-u : goal.overflow_mul-u
overflow_mul-u c =
    let a = c.args in
    let pre = c.requires.bound in
    let at = unit-around a.n a.u a.v 5 a.coded.now pre.0 pre.1 pre.3 (omega arith) (omega arith)
    (rw c.in-TwoFifths.is at pre.2) in
    omega (arith, at.first, c.well_formed.1.1.1.0)

pub overflow_mul-v : goal.overflow_mul-v
overflow_mul-v c =
    let a = c.args in
    let pre = c.requires.bound in
    let at = unit-around a.n a.u a.v 5 a.coded.now pre.0 pre.1 pre.3 (omega arith) (omega arith)
    (rw c.in-TwoFifths.is at pre.2) in
    omega (arith, at.inner, c.well_formed.1.1.1.0)

pub around-requires : goal.around-requires
around-requires c =
    let a = c.args in
    let pre = c.requires.bound in
    let at = unit-around a.n a.u a.v 5 a.coded.now pre.0 pre.1 pre.3 (omega arith) (omega arith)
    (rw c.in-TwoFifths.is at pre.2) in
    (at.within, at.same)

pub unit_bits-requires : goal.unit_bits-requires
unit_bits-requires c =
    let a = c.args in
    let f : ℕ → ℕ = bit_at a.coded.now in
    let size : 5 ≡ group_size a.rate = ap group_size (sym c.in-TwoFifths.is) in
    (c.requires.words, window-lt a.rate a.n a.u f (bit_at_lt a.coded.now) size c.around.ensures)

pub overflow_mul-n-in-Half : goal.overflow_mul-n-in-Half
overflow_mul-n-in-Half c =
    let a = c.args in
    let pre = c.requires.bound in
    let at = unit-around a.n a.u a.v 4 a.coded.now pre.0 pre.1 pre.3 (omega arith) (omega arith)
    (rw c.in-Half.is at pre.2) in
    omega (arith, at.whole, c.well_formed.1.1.1.0)

pub overflow_mul-u-in-Half : goal.overflow_mul-u-in-Half
overflow_mul-u-in-Half c =
    let a = c.args in
    let pre = c.requires.bound in
    let at = unit-around a.n a.u a.v 4 a.coded.now pre.0 pre.1 pre.3 (omega arith) (omega arith)
    (rw c.in-Half.is at pre.2) in
    omega (arith, at.first, c.well_formed.1.1.1.0)

pub overflow_mul-v-in-Half : goal.overflow_mul-v-in-Half
overflow_mul-v-in-Half c =
    let a = c.args in
    let pre = c.requires.bound in
    let at = unit-around a.n a.u a.v 4 a.coded.now pre.0 pre.1 pre.3 (omega arith) (omega arith)
    (rw c.in-Half.is at pre.2) in
    omega (arith, at.inner, c.well_formed.1.1.1.0)

pub around-requires-in-Half : goal.around-requires-in-Half
around-requires-in-Half c =
    let a = c.args in
    let pre = c.requires.bound in
    let at = unit-around a.n a.u a.v 4 a.coded.now pre.0 pre.1 pre.3 (omega arith) (omega arith)
    (rw c.in-Half.is at pre.2) in
    (at.within, at.same)

pub unit_bits-requires-in-Half : goal.unit_bits-requires-in-Half
unit_bits-requires-in-Half c =
    let a = c.args in
    let f : ℕ → ℕ = bit_at a.coded.now in
    let size : 4 ≡ group_size a.rate = ap group_size (sym c.in-Half.is) in
    (c.requires.words, window-lt a.rate a.n a.u f (bit_at_lt a.coded.now) size c.around-in-Half.ensures)

pub returns-in-TwoFifths : goal.returns-in-TwoFifths
returns-in-TwoFifths c =
    let a = c.args in
    let pre = c.requires.bound in
    let f : ℕ → ℕ = bit_at a.coded.now in
    let size : 5 ≡ group_size a.rate = ap group_size (sym c.in-TwoFifths.is) in
    c.unit_bits.ensures ∙ unit-word a.rate a.n a.u f (bit_at_lt a.coded.now) size c.around.ensures pre.0 pre.1

pub returns-in-Half : goal.returns-in-Half
returns-in-Half c =
    let a = c.args in
    let pre = c.requires.bound in
    let f : ℕ → ℕ = bit_at a.coded.now in
    let size : 4 ≡ group_size a.rate = ap group_size (sym c.in-Half.is) in
    c.unit_bits-in-Half.ensures ∙ unit-word a.rate a.n a.u f (bit_at_lt a.coded.now) size c.around-in-Half.ensures pre.0 pre.1
