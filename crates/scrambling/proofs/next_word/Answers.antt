use mathlib.Core.Path.{◌≡◌, refl, sym, ap, ◌∙◌}
use Prim.Native.Nat.{ℕ, ◌+◌, ◌*◌, ◌%◌, ◌^◌}
use native.Mathlib.Nat.{add-zero, add-suc, pow-suc}
use native.Mathlib.Numerals.{add-one}
use native.Mathlib.Omega.{arith}
use lib.Bits.{bit_or}
use Rattle.bits.specs.Bits.{number}
use Rattle.bits.proofs.Words.{push-bit}
use Rattle.scrambling.specs.Scrambler.{register, sequence, feedback, next}
use Rattle.scrambling.proofs.next_word.Goals as goal

-- one turn
turn : (n bits r k : ℕ) → bits ≡ number k (λ i. sequence (n + i)) → r ≡ register (n + k)
    → (bits * 2 + feedback r ≡ number (k + 1) (λ i. sequence (n + i))) × (next r ≡ register (n + (k + 1)))
unfolding number register sequence
turn n bits r k p q = (
  rw (add-one, p, q),
  (ap next q ∙ ap register (sym (add-suc n k) ∙ ap (λ (x : ℕ). n + x) (sym (add-one k)))),
)

pub loop-k-init : goal.loop-k-init
unfolding number
loop-k-init c = (omega arith, c.requires, omega arith, λ n e. (refl, e ∙ ap register (sym (add-zero n))))

pub loop-k-preserved : goal.loop-k-preserved
loop-k-preserved c =
    let bits = c.loop-k.bits in
    let r = c.loop-k.r in
    let k = c.loop-k.k in
    let inv = c.loop-k.invariant in
    let p : bit_or (bits * 2 % 2 ^ 32) c.feed.result ≡ bits * 2 + feedback r =
    push-bit 32 bits c.feed.result k inv.2 (omega arith) (omega arith) ∙ ap (λ (x : ℕ). bits * 2 + x) c.feed.ensures in
    let b : 2 ^ (k + 1) ≡ 2 ^ k * 2 = rw add-one (pow-suc 2 k) in (
      omega arith,
      omega arith,
      omega arith,
      λ n e. let t = turn n bits r k (inv.3 n e).0 (inv.3 n e).1 in (p ∙ t.0, c.step-r.ensures ∙ t.1),
    )

pub returns : goal.returns
returns c =
    let k : c.loop-k.k ≡ 32 = omega arith in
    (λ n e. rw k at (c.loop-k.invariant.3 n e), c.loop-k.invariant.1)
