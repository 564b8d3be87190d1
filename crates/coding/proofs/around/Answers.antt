-- `coding::around` meets its contract: the bytes before are pushed up by the m bytes. Assumes nothing.
use mathlib.Core.Path.{ap, ◌∙◌}
use Prim.Native.Nat.{ℕ, ◌+◌, ◌*◌, ◌%◌}
use native.Mathlib.Nat.{div-add-mod'}
use native.Mathlib.Omega.{arith}
use Rattle.bits.specs.Bits.{bit_at}
use Rattle.bits.proofs.Numbers.{number-cong}
use Rattle.bits.proofs.Packed.{bit_at_lt}
use Rattle.coding.specs.Units.{around}
use Rattle.coding.proofs.Slices.{number_push}
use Rattle.coding.proofs.Turns.{back_fits, around-before, around_here, around-bit}
use Rattle.coding.proofs.around.Goals as goal

pub load-requires : goal.load-requires
load-requires c =
    let a = c.args in
    let w = c.requires.0 in
    (omega (arith, c.before-2.ensures, back_fits a.n (a.j % a.n) a.d (omega arith) (omega arith) w.apart), omega arith)

pub load-requires-2 : goal.load-requires-2
load-requires-2 c =
    let a = c.args in
    (omega (arith, div-add-mod' a.j a.n), omega arith)

pub returns : goal.returns
returns c =
    let a = c.args in
    let w = c.requires.0 in
    let f : ℕ → ℕ = bit_at a.bytes.now in
    number_push (around a.n a.j a.d f) (around-bit a.n a.j a.d f (bit_at_lt a.bytes.now)) 64 (8 * a.d) (8 * a.m) _ _ (omega arith)
    (c.load.ensures ∙ number-cong _ _ _ (λ i l. ap (λ (k : ℕ). f (8 * k + i)) c.before-2.ensures
    ∙ around-before a.n a.j a.d f i (omega arith) (omega arith) w.apart l))
    (c.load-2.ensures ∙ number-cong _ _ _ (λ i l. around_here a.n a.j a.d f i (omega arith)))
