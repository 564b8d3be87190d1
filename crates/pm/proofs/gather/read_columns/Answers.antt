-- `pm::gather::read_columns` meets its contract: the law `from_cell`, for a whole byte and for a half. Assumes nothing.
use mathlib.Core.Path.{◌≡◌, ◌∙◌}
use Prim.Native.Nat.{◌+◌, ◌*◌, ◌/◌, ◌%◌}
use native.Mathlib.Omega.{arith}
use Rattle.bits.specs.Bits.{bit_at}
use Rattle.pm.proofs.BackLaws.{from_cell}
use Rattle.pm.proofs.gather.read_columns.Goals as goal

pub nine_nibbles-requires : goal.nine_nibbles-requires
nine_nibbles-requires c = (omega arith, omega arith, c.requires.3, c.requires.4)

pub returns-then-c-eq0 : goal.returns-then-c-eq0
returns-then-c-eq0 c =
    let a = c.args in
    let cell : a.c ≡ 8 * (a.c / 8) + 4 * 0 = omega arith in
    (c.nine_nibbles.ensures.0, λ g e s. c.nine_nibbles.ensures.1 g (λ x h. e x h ∙ from_cell (bit_at a.pm.now) a.c 0 x cell) s)

pub nine_nibbles-requires-2 : goal.nine_nibbles-requires-2
nine_nibbles-requires-2 c = (omega arith, omega arith, c.requires.3, c.requires.4)

pub returns : goal.returns
returns c =
    let a = c.args in
    let half : a.c % 8 ≡ 4 = omega arith in
    let cell : a.c ≡ 8 * (a.c / 8) + 4 * 1 = omega arith in
    (c.nine_nibbles-2.ensures.0, λ g e s. c.nine_nibbles-2.ensures.1 g (λ x h. e x h ∙ from_cell (bit_at a.pm.now) a.c 1 x cell) s)
