-- Laws of the tests `all`, `lowest` and `same`. Assumes nothing.
use mathlib.Core.Path.{◌≡◌, refl, ap, ap₂, ◌∙◌, subst}
use mathlib.Core.Bool.{Bool, true, false, cond, ◌&&◌}
use Prim.Native.Nat.{ℕ, zero, suc, ◌≤◌, ◌<◌}
use native.Mathlib.Decide.{dec_lt}
use native.Mathlib.Omega.{arith}
use mathlib.Core.List.{List, [], ◌∷◌}
use lib.Dec.{T, eqb}
use lib.Pointwise.{pointwise}
use borrow.Author.Tests.{eq-eqb, eqb-true}
use Rattle.bits.specs.Tests.{all, lowest, same}

-- both of two tests
pub both : (a b : Bool) → T (a && b) → T a × T b
both true b t = (tt, t)
both false b t = absurd t

pub all-at : (n : ℕ) (p : ℕ → Bool) → T (all n p) → (i : ℕ) → i < n → T (p i)
unfolding all
all-at zero p t i h = absurd (omega arith)
all-at (suc n) p t i h = go (dec_lt i n) (all-at n p (both (p n) (all n p) t).1 i)
  where
    go : Dec (i < n) → (i < n → T (p i)) → T (p i)
    go (yes m) ih = ih m
    go (no m) ih = let e : n ≡ i = omega arith in subst (λ (k : ℕ). T (p k)) e (both (p n) (all n p) t).0

pub all_true : (n : ℕ) (p : ℕ → Bool) → ((i : ℕ) → i < n → p i ≡ true) → all n p ≡ true
unfolding all
all_true zero p h = refl
all_true (suc n) p h = rw (h n (omega arith), all_true n p (λ i l. h i (omega arith)))

and-false : (b : Bool) → b && false ≡ false
and-false true = refl
and-false false = refl

pub all-false : (n : ℕ) (p : ℕ → Bool) (i : ℕ) → i < n → p i ≡ false → all n p ≡ false
unfolding all
all-false zero p i h e = absurd (omega arith)
all-false (suc n) p i h e =
    elim (dec_lt i n) [
      | yes l ↦ rw (all-false n p i l e) (and-false (p n))
      | no l ↦ let z : n ≡ i = omega arith in rw (z, e)
    ]

pub all-cong : (n : ℕ) (p q : ℕ → Bool) → ((i : ℕ) → i < n → p i ≡ q i) → all n p ≡ all n q
unfolding all
all-cong zero p q h = refl
all-cong (suc n) p q h = ap₂ ◌&&◌ (h n (omega arith)) (all-cong n p q (λ i l. h i (omega arith)))

-- ---- the lowest number at which a test passes

pub lowest-at : (n k : ℕ) (p : ℕ → Bool) → k < n → ((i : ℕ) → i < k → p i ≡ false) → p k ≡ true → lowest n p ≡ k
unfolding lowest
lowest-at zero k p l h e = omega arith
lowest-at (suc n) zero p l h e = ap (λ (t : Bool). cond t 0 (suc (lowest n (λ i. p (suc i))))) e
lowest-at (suc n) (suc k) p l h e =
    ap (λ (t : Bool). cond t 0 (suc (lowest n (λ i. p (suc i))))) (h 0 (omega arith))
    ∙ ap suc (lowest-at n k (λ i. p (suc i)) (omega arith) (λ i m. h (suc i) (omega arith)) e)

pub lowest-none : (n : ℕ) (p : ℕ → Bool) → ((i : ℕ) → i < n → p i ≡ false) → lowest n p ≡ n
unfolding lowest
lowest-none zero p h = refl
lowest-none (suc n) p h =
    ap (λ (t : Bool). cond t 0 (suc (lowest n (λ i. p (suc i))))) (h 0 (omega arith))
    ∙ ap suc (lowest-none n (λ i. p (suc i)) (λ i m. h (suc i) (omega arith)))

pub lowest-cong : (n : ℕ) (p q : ℕ → Bool) → ((i : ℕ) → i < n → p i ≡ q i) → lowest n p ≡ lowest n q
unfolding lowest
lowest-cong zero p q h = refl
lowest-cong (suc n) p q h =
    ap₂ (λ (t : Bool) (k : ℕ). cond t 0 (suc k)) (h 0 (omega arith)) (lowest-cong n _ _ (λ i l. h (suc i) (omega arith)))

-- below it the test fails, and at it, where it is below n, the test passes
pub lowest-below : (n : ℕ) (p : ℕ → Bool) (i : ℕ) → i < lowest n p → p i ≡ false
unfolding lowest
lowest-below zero p i h = absurd (omega arith)
lowest-below (suc n) p i h = go (p 0) refl h i (lowest-below n (λ j. p (suc j))) h
  where
    go : (b : Bool) → p 0 ≡ b → i < lowest (suc n) p → (j : ℕ) → ((k : ℕ) → k < lowest n (λ j. p (suc j)) → p (suc k) ≡ false)
        → j < cond b 0 (suc (lowest n (λ j. p (suc j)))) → p j ≡ false
    go true e l j ih m = absurd (omega arith)
    go false e l zero ih m = e
    go false e l (suc j) ih m = ih j (omega arith)

pub lowest-passes : (n : ℕ) (p : ℕ → Bool) → lowest n p < n → p (lowest n p) ≡ true
unfolding lowest
lowest-passes zero p h = absurd (omega arith)
lowest-passes (suc n) p h = go (p 0) refl (lowest-passes n (λ j. p (suc j))) h
  where
    go : (b : Bool) → p 0 ≡ b → (lowest n (λ j. p (suc j)) < n → p (suc (lowest n (λ j. p (suc j)))) ≡ true)
        → cond b 0 (suc (lowest n (λ j. p (suc j)))) < suc n → p (cond b 0 (suc (lowest n (λ j. p (suc j))))) ≡ true
    go true e ih m = e
    go false e ih m = ih (omega arith)

-- it is at most n, and at most any number that passes
pub lowest-up-to : (n : ℕ) (p : ℕ → Bool) → lowest n p ≤ n
lowest-up-to n p = elim (dec_lt n (lowest n p)) [
  | yes l ↦ let e = lowest-none n p (λ i h. lowest-below n p i (omega arith)) in omega arith
  | no l ↦ omega arith
]

pub lowest-le : (n : ℕ) (p : ℕ → Bool) (k : ℕ) → p k ≡ true → lowest n p ≤ k
lowest-le n p k e = elim (dec_lt k (lowest n p)) [
  | yes l ↦ let f : p k ≡ false = lowest-below n p k l in let z : ◌≡◌ {A = ℕ} 0 1 = cc in omega arith
  | no l ↦ omega arith
]

-- ---- two lists of bytes

pub same_refl : (a : List ℕ) → same a a ≡ true
unfolding same
same_refl [] = refl
same_refl (x ∷ a) = ap₂ ◌&&◌ (eq-eqb x x refl) (same_refl a)

pub and-true : (a b : Bool) → (a && b) ≡ true → (a ≡ true) × (b ≡ true)
and-true true b e = (refl, e)
and-true false b e = (e, cc)

pub same_true : (a b : List ℕ) → same a b ≡ true → a ≡ b
unfolding same
same_true [] [] e = refl
same_true [] (y ∷ b) e = cc
same_true (x ∷ a) [] e = cc
same_true (x ∷ a) (y ∷ b) e =
    let h = and-true (eqb x y) (same a b) e in
    ap₂ (λ (u : ℕ) (v : List ℕ). u ∷ v) (eqb-true x y h.0) (same_true a b h.1)

pub same-eq : (a b : List ℕ) → a ≡ b → same a b ≡ true
same-eq a b e = rw e (same_refl b)

pub same-ne : (a b : List ℕ) → (a ≡ b → ⊥) → same a b ≡ false
same-ne a b n = go (same a b) refl
  where
    go : (t : Bool) → same a b ≡ t → t ≡ false
    go true e = absurd (n (same_true a b e))
    go false e = refl

-- the test is std's comparison, byte by byte
pub same_pointwise : (a b : List ℕ) → pointwise eqb a b ≡ same a b
unfolding same
same_pointwise [] [] = refl
same_pointwise [] (y ∷ ys) = refl
same_pointwise (x ∷ xs) [] = refl
same_pointwise (x ∷ xs) (y ∷ ys) = ap (λ (b : Bool). eqb x y && b) (same_pointwise xs ys)
