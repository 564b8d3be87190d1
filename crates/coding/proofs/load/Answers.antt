use mathlib.Core.Path.{◌≡◌, refl, sym, ap, ◌∙◌}
use Prim.Native.Nat.{ℕ, ◌+◌, ◌*◌}
use native.Mathlib.Omega.{arith}
use borrow.Author.Rules.{rules}
use Rattle.bits.specs.Bits.{bit_at, number}
use Rattle.bits.proofs.Numbers.{number-cong}
use Rattle.bits.proofs.Packed.{bit_at_lt}
use Rattle.bits.proofs.Stores.{byte-number}
use Rattle.coding.proofs.Slices.{number_push}
use Rattle.coding.proofs.load.Goals as goal

pub loop-k-init : goal.loop-k-init
unfolding number
loop-k-init c = (search rules, refl)

pub overflow_cast-word : goal.overflow_cast-word
overflow_cast-word c = omega (arith, c.shared_slice_known-1.given (c.args.j + c.loop-k.k))

pub loop-k-preserved : goal.loop-k-preserved
loop-k-preserved c =
    let a = c.args in
    let bytes = a.bytes.now in
    let j = a.j in
    let k = c.loop-k.k in
    let s : 8 * k + 8 ≡ 8 * (k + 1) = omega arith in (
      search rules,
      number_push (λ i. bit_at bytes (8 * j + i)) (λ i. bit_at_lt bytes _) 64 (8 * k) 8 _ _ (omega arith) c.loop-k.invariant.1
          (sym (byte-number bytes (j + k) (omega (arith, c.shared_slice_known-1.given (j + k))))
          ∙ number-cong 8 _ _ (λ i l. ap (bit_at bytes) (omega arith)))
          ∙ ap (λ (n : ℕ). number n (λ i. bit_at bytes (8 * j + i))) s,
    )

pub returns : goal.returns
returns c =
    let a = c.args in
    let k : c.loop-k.k ≡ a.m = omega arith in
    c.loop-k.invariant.1 ∙ ap (λ (n : ℕ). number (8 * n) (λ i. bit_at a.bytes.now (8 * a.j + i))) k
