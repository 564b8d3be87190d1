-- The promises leave no choice: one place list keeps them. Assumes nothing.
use mathlib.Core.Path.{◌≡◌, refl, sym, ap, ap₂, subst, ◌∙◌}
use mathlib.Core.Logic.{inl, inr}
use mathlib.Core.Bool.{Bool, true, false, cond}
use mathlib.Core.List.{List, [], ◌∷◌}
use Prim.Native.Nat.{ℕ, zero, suc, ◌+◌, ◌<◌, ◌≤◌}
use native.Mathlib.Decide.{ℕ_discrete}
use native.Mathlib.Omega.{arith}
use borrow.Author.Tests.{eq-eqb, ne_eqb, ltb-true, ltb-false}
use lib.Dec.{eqb, ltb}
use lib.ListN.{get_or, length}
use Rattle.allocation.specs.Allocation.{granted, places_of, total}
use Rattle.allocation.specs.Promises.{Owner, Promises, count}
use Rattle.allocation.proofs.Outcomes.{promised}

-- ---- counts

count-own : (y : ℕ) (ys : List ℕ) → count y (y ∷ ys) ≡ 1 + count y ys
unfolding count
count-own y ys = rw (eq-eqb y y refl)

count_past : (x y : ℕ) (ys : List ℕ) → (x ≡ y → ⊥) → count x (y ∷ ys) ≡ count x ys
unfolding count
count_past x y ys n = rw (ne_eqb x y n)

-- the counts of sources 0 to k - 1
unfoldable sums : ℕ → List ℕ → ℕ
sums zero l = 0
sums (suc k) l = sums k l + count k l

sums-past : (k y : ℕ) (ys : List ℕ) → k ≤ y → sums k (y ∷ ys) ≡ sums k ys
unfolding sums
sums-past zero y ys h = refl
sums-past (suc k) y ys h = ap₂ ◌+◌ (sums-past k y ys (omega arith)) (count_past k y ys (λ e. omega arith))

sums-own : (k y : ℕ) (ys : List ℕ) → y < k → sums k (y ∷ ys) ≡ sums k ys + 1
unfolding sums
sums-own zero y ys h = absurd (omega arith)
sums-own (suc k) y ys h = go (ℕ_discrete k y) (λ l. sums-own k y ys l)
  where
    go : Dec (k ≡ y) → (y < k → sums k (y ∷ ys) ≡ sums k ys + 1) → sums k (y ∷ ys) + count k (y ∷ ys) ≡ sums k ys + count k ys + 1
    go (yes e) before = rw e (omega (arith, sums-past y y ys (omega arith), count-own y ys))
    go (no n) before = omega (arith, before (omega arith), count_past k y ys n)

none-counted : sums 8 [] + count 255 [] ≡ 0
unfolding sums count
none-counted = refl

-- every place is counted once
all-counted : (l : List ℕ) → ((q : ℕ) → q < length l → Owner (get_or l q 0)) → sums 8 l + count 255 l ≡ length l
all-counted [] own = none-counted
all-counted (y ∷ ys) own = go (own 0 (omega arith)) (all-counted ys (λ q h. own (suc q) (omega arith)))
  where
    go : Owner y → sums 8 ys + count 255 ys ≡ length ys → sums 8 (y ∷ ys) + count 255 (y ∷ ys) ≡ suc (length ys)
    go (inl l) e = omega (arith, sums-own 8 y ys l, count_past 255 y ys (λ z. omega arith))
    go (inr z) e = omega (arith, sums-past 8 y ys (omega arith), ap (λ (x : ℕ). count x (y ∷ ys)) (sym z), count-own y ys, ap (λ (x : ℕ). count x ys) (sym z))

sums-below : (k : ℕ) (p q : List ℕ) → ((d : ℕ) → d < k → count d p ≤ count d q) → sums k p ≤ sums k q
unfolding sums
sums-below zero p q h = omega arith
sums-below (suc k) p q h = omega (arith, sums-below k p q (λ d l. h d (omega arith)), h k (omega arith))

sums-less : (k : ℕ) (p q : List ℕ) → ((d : ℕ) → d < k → count d p ≤ count d q) → (a : ℕ) → a < k → count a p < count a q → sums k p < sums k q
unfolding sums
sums-less zero p q h a l m = absurd (omega arith)
sums-less (suc k) p q h a l m = go (ℕ_discrete a k) (λ n. sums-less k p q (λ d i. h d (omega arith)) a n m)
  where
    go : Dec (a ≡ k) → (a < k → sums k p < sums k q) → sums k p + count k p < sums k q + count k q
    go (yes e) before = omega (arith, sums-below k p q (λ d i. h d (omega arith)), subst (λ (x : ℕ). count x p < count x q) e m)
    go (no n) before = omega (arith, before (omega arith), h k (omega arith))

-- ---- lists in order

record Ranked (l : List ℕ) : Type 0 where
  pub own : (q : ℕ) → q < length l → Owner (get_or l q 0)
  pub rises : (q r : ℕ) → q ≤ r → r < length l → get_or l q 0 ≤ get_or l r 0

behind : (x : ℕ) (l : List ℕ) → Ranked (x ∷ l) → Ranked l
behind x l w = record { own = λ q h. w.own (suc q) (omega arith); rises = λ q r m h. w.rises (suc q) (suc r) (omega arith) (omega arith) }

absent : (v : ℕ) (l : List ℕ) → ((q : ℕ) → q < length l → v < get_or l q 0) → count v l ≡ 0
unfolding count
absent v [] h = refl
absent v (y ∷ ys) h =
    let n : v ≡ y → ⊥ = λ e. omega (arith, h 0 (omega arith)) in
    rw (ne_eqb v y n) (absent v ys (λ q l. h (suc q) (omega arith)))

-- the least place comes first
no_lower : (x y : ℕ) (xs ys : List ℕ) → Ranked (y ∷ ys) → count x (x ∷ xs) ≡ count x (y ∷ ys) → x < y → ⊥
no_lower x y xs ys w e h =
    omega (arith, count-own x xs, absent x (y ∷ ys) (λ q l. omega (arith, w.rises 0 q (omega arith) l)))

cancel : (v x : ℕ) (xs ys : List ℕ) → count v (x ∷ xs) ≡ count v (x ∷ ys) → count v xs ≡ count v ys
unfolding count
cancel v x xs ys = go (eqb v x)
  where
    go : (t : Bool) → cond t (1 + count v xs) (count v xs) ≡ cond t (1 + count v ys) (count v ys) → count v xs ≡ count v ys
    go true e = omega arith
    go false e = e

by-counts : (p q : List ℕ) → length p ≡ length q → Ranked p → Ranked q → ((v : ℕ) → Owner v → count v p ≡ count v q) → p ≡ q
by-counts [] [] n w z same = refl
by-counts [] (y ∷ ys) n w z same = absurd (omega arith)
by-counts (x ∷ xs) [] n w z same = absurd (omega arith)
by-counts (x ∷ xs) (y ∷ ys) n w z same =
    let e : x ≡ y = equal (ltb x y) refl (ltb y x) refl in
    ap₂ (λ (a : ℕ) (l : List ℕ). a ∷ l) e
    (by-counts xs ys (omega arith) (behind x xs w) (behind y ys z) (λ v o. cancel v x xs ys (same v o ∙ ap (λ (a : ℕ). count v (a ∷ ys)) (sym e))))
  where
    equal : (s : Bool) → ltb x y ≡ s → (t : Bool) → ltb y x ≡ t → x ≡ y
    equal true a t b = absurd (no_lower x y xs ys z (same x (w.own 0 (omega arith))) (ltb-true x y a))
    equal false a true b = absurd (no_lower y x ys xs w (sym (same y (z.own 0 (omega arith)))) (ltb-true y x b))
    equal false a false b = omega (arith, ltb-false x y a, ltb-false y x b)

-- ---- two lists that keep the promises

module _ (shares waiting p q : List ℕ) (x : Promises shares waiting p) (y : Promises shares waiting q) where
  -- no source has more in p while another has more in q
  crossed : (a b : ℕ) → a < 8 → b < 8 → count a q < count a p → count b p < count b q → ⊥
  crossed a b h k m n = go (ltb a b) refl (ltb b a) refl
    where
      go : (s : Bool) → ltb a b ≡ s → (t : Bool) → ltb b a ≡ t → ⊥
      go true i t j =
          let u : count a q < get_or waiting a 0 = omega (arith, x.not_more a h) in
          let v : count b p < get_or waiting b 0 = omega (arith, y.not_more b k) in
          omega (arith, y.lower-first b a (ltb-true a b i) k u, x.one-ahead a b h k v)
      go false i true j =
          let u : count a q < get_or waiting a 0 = omega (arith, x.not_more a h) in
          let v : count b p < get_or waiting b 0 = omega (arith, y.not_more b k) in
          omega (arith, x.lower-first a b (ltb-true b a j) h v, y.one-ahead b a k h u)
      go false i false j =
          let e : a ≡ b = omega (arith, ltb-false a b i, ltb-false b a j) in
          omega (arith, subst (λ (d : ℕ). count d q < count d p) e m)

  ranked-p : Ranked p
  ranked-p = record { own = λ i h. x.owned i (omega (arith, x.sixteen)); rises = λ i j l h. x.in_order i j l (omega (arith, x.sixteen)) }

  -- so none has more in p
  no_more : (a : ℕ) → a < 8 → count a q < count a p → ⊥
  no_more a h m =
      let u : count a q < get_or waiting a 0 = omega (arith, x.not_more a h) in
      omega (
        arith,
        sums-less 8 q p (λ d l. at_most d l (ltb (count d p) (count d q)) refl) a h m,
        all-counted p ranked-p.own,
        all-counted q (λ i l. y.owned i (omega (arith, y.sixteen))),
        x.sixteen,
        y.sixteen,
        y.none-idle a h u,
      )
    where
      at_most : (d : ℕ) → d < 8 → (t : Bool) → ltb (count d p) (count d q) ≡ t → count d q ≤ count d p
      at_most d l true e = absurd (crossed a d h l m (ltb-true (count d p) (count d q) e))
      at_most d l false e = ltb-false (count d p) (count d q) e

-- whoever keeps the promises gives this list
pub one_list : (shares waiting p q : List ℕ) → Promises shares waiting p → Promises shares waiting q → p ≡ q
one_list shares waiting p q x y =
    by-counts p q (x.sixteen ∙ sym y.sixteen) (ranked-p shares waiting p q x y) (ranked-p shares waiting q p y x) same
  where
    source : (d : ℕ) → d < 8 → (s : Bool) → ltb (count d p) (count d q) ≡ s → (t : Bool) → ltb (count d q) (count d p) ≡ t → count d p ≡ count d q
    source d h true a t b = absurd (no_more shares waiting q p y x d h (ltb-true (count d p) (count d q) a))
    source d h false a true b = absurd (no_more shares waiting p q x y d h (ltb-true (count d q) (count d p) b))
    source d h false a false b = omega (arith, ltb-false (count d p) (count d q) a, ltb-false (count d q) (count d p) b)

    equal : (d : ℕ) → d < 8 → count d p ≡ count d q
    equal d h = source d h (ltb (count d p) (count d q)) refl (ltb (count d q) (count d p)) refl

    same : (v : ℕ) → Owner v → count v p ≡ count v q
    same v (inl h) = equal v h
    same v (inr e) =
        ap (λ (z : ℕ). count z p) e
        ∙ omega (
          arith,
          all-counted p (ranked-p shares waiting p q x y).own,
          all-counted q (ranked-p shares waiting q p y x).own,
          x.sixteen,
          y.sixteen,
          sums-below 8 p q (λ d h. omega (arith, equal d h)),
          sums-below 8 q p (λ d h. omega (arith, equal d h)),
        )
        ∙ ap (λ (z : ℕ). count z q) (sym e)

pub the-list : (shares waiting : List ℕ) → total 8 shares ≤ 16 → (p : List ℕ) → Promises shares waiting p → p ≡ places_of (granted shares waiting)
the-list shares waiting few p x = one_list shares waiting p (places_of (granted shares waiting)) x (promised shares waiting few)
