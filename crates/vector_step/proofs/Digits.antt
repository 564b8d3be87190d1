-- Digits behind the point, put one after the other. Assumes nothing.
use mathlib.Core.Path.{◌≡◌, refl, sym, ap, subst, ◌∙◌}
use mathlib.Core.Bool.{Bool, cond}
use mathlib.Core.List.{List, [], ◌∷◌, ◌++◌, append-nil}
use Prim.Native.Nat.{ℕ, zero, suc, ◌+◌, ◌-◌, ◌*◌, ◌/◌, ◌%◌, ◌^◌, ◌≤◌, ◌<◌}
use native.Mathlib.Nat.{div-lt_iff_lt-mul, mod-lt, not-suc-le-zero, one-le-pow, pow-succ'}
use native.Mathlib.Numerals.{add-one}
use native.Mathlib.Omega.{arith}
use borrow.Author.Tests.{eq-eqb, ne_eqb}
use lib.Dec.{eqb, eqb→eq}
use lib.ListN.{get_or, length, set, take}
use lib.Seq.{append_snoc, take-suc-set}
use Rattle.bits.specs.Tests.{all}
use Rattle.bits.proofs.Tests.{all-at}
use Rattle.text.specs.Put.{Put}
use Rattle.vector_step.specs.Numbers.{digits}

-- ---- powers of ten

unfoldable pub powers : List ℕ
powers =
    1 ∷ 10 ∷ 100 ∷ 1000 ∷ 10000 ∷ 100000 ∷ 1000000 ∷ 10000000 ∷ 100000000 ∷ 1000000000 ∷ 10000000000 ∷ 100000000000 ∷ 1000000000000 ∷ 10000000000000
    ∷ 100000000000000 ∷ 1000000000000000 ∷ []

is-power : ℕ → Bool
is-power k = eqb (get_or powers k 0) (10 ^ k)

pub power-is : (k : ℕ) → k < 16 → get_or powers k 0 ≡ 10 ^ k
unfolding is-power all powers
power-is k h = eqb→eq (get_or powers k 0) (10 ^ k) (all-at 16 is-power tt k h)

ten-pos : (k : ℕ) → 0 < 10 ^ k
ten-pos k = one-le-pow k 10 (omega arith)

before : (k : ℕ) → 0 < k → suc (k - 1) ≡ k
before k h = omega arith

module _ (k u : ℕ) (e : u ≡ 10 ^ (k - 1)) where
  pub unit-pos : 0 < u
  unit-pos = subst (λ (n : ℕ). 0 < n) (sym e) (ten-pos (k - 1))

  pub rest-small : (left : ℕ) → left % u < 10 ^ (k - 1)
  rest-small left = subst (λ (n : ℕ). left % u < n) e (mod-lt left unit-pos)

  pub digit-small : (left : ℕ) → 0 < k → left < 10 ^ k → left / u < 10
  digit-small left p h =
      let q : 10 ^ k ≡ 10 * u = ap (λ (n : ℕ). 10 ^ n) (sym (before k p)) ∙ pow-succ' 10 (k - 1) ∙ ap (λ (n : ℕ). 10 * n) (sym e) in
      (div-lt_iff_lt-mul unit-pos).1 (subst (λ (n : ℕ). left < n) q h)

-- ---- digits

pub digits-none : (k left : ℕ) → left ≡ 0 → digits k left ≡ []
unfolding digits
digits-none zero left e = refl
digits-none (suc k) left e = ap (λ (b : Bool). cond b [] ((48 + left / 10 ^ k) ∷ digits k (left % 10 ^ k))) (eq-eqb left 0 e)

pub digits-end : (k left : ℕ) → k ≤ 0 → digits k left ≡ []
unfolding digits
digits-end zero left h = refl
digits-end (suc k) left h = absurd (not-suc-le-zero h)

digits-first : (k left : ℕ) → (left ≡ 0 → ⊥) → digits (suc k) left ≡ (48 + left / 10 ^ k) ∷ digits k (left % 10 ^ k)
unfolding digits
digits-first k left ne = ap (λ (b : Bool). cond b [] ((48 + left / 10 ^ k) ∷ digits k (left % 10 ^ k))) (ne_eqb left 0 ne)

-- one digit more
pub digits_more : (out : List ℕ) (end k left u d : ℕ) → 0 < k → (left ≡ 0 → ⊥) → end < length out → u ≡ 10 ^ (k - 1) → d ≡ 48 + left / u
    → take (end + 1) (set out end d) ++ digits (k - 1) (left % u) ≡ take end out ++ digits k left
digits_more out end k left u d p ne h eu ed =
    let rest : List ℕ = digits (k - 1) (left % u) in
    let same : d ∷ rest ≡ digits k left
    = (λ i. (ed ∙ ap (λ (n : ℕ). 48 + left / n) eu) i ∷ digits (k - 1) (left % eu i)) ∙ sym (digits-first (k - 1) left ne) ∙ ap (λ (n : ℕ). digits n left) (before k p) in
    ap (λ (t : List ℕ). t ++ rest) (ap (λ (n : ℕ). take n (set out end d)) (add-one end) ∙ take-suc-set out end d h)
    ∙ append_snoc (take end out) d rest
    ∙ ap (λ (t : List ℕ). take end out ++ t) same

pub digits-done : (old out text : List ℕ) (at k left end : ℕ) → end + k ≡ at + 16 → length out ≡ length old
    → take end out ++ digits k left ≡ take at old ++ text → digits k left ≡ [] → Put old out at end 16 text
digits-done old out text at k left end e same h none = record {
  within = omega arith;
  size = same;
  holds = sym (append-nil (take end out)) ∙ ap (λ (t : List ℕ). take end out ++ t) (sym none) ∙ h;
}
