-- Calls that meet no cause. Assumes nothing.
use Prim.Native.Nat.{ℕ, suc, ◌+◌, ◌-◌, ◌≤◌, ◌<◌}
use mathlib.Core.Path.{◌≡◌, refl}
use mathlib.Core.Bool.{Bool, true, false, cond}
use mathlib.Core.Option.{none, some, some-ne-none}
use mathlib.Core.List.{List, [], ◌∷◌, ◌++◌}
use native.Mathlib.Omega.{arith}
use lib.Dec.{eqb, ltb}
use borrow.Author.Tests.{eq-eqb, eqb-true, le-ltb, ltb-true, ltb-false}
use Rattle.bits.specs.Bits.{beside}
use Rattle.bits.proofs.Tests.{lowest-none}
use Rattle.runs.specs.Causes.{Size, size, wrong, first}

pub wrong-head : (k a b : ℕ) (rest : List Size) → wrong k (size a b ∷ rest) ≡ none → (a ≡ b) × (wrong (suc k) rest ≡ none)
unfolding wrong
wrong-head k a b rest e = go (eqb a b) refl e
  where
    go : (t : Bool) → eqb a b ≡ t → cond t (wrong (suc k) rest) (some k) ≡ none → (a ≡ b) × (wrong (suc k) rest ≡ none)
    go true q h = (eqb-true a b q, h)
    go false q h = absurd (some-ne-none k h)

pub wrong-nil : (k : ℕ) → wrong k [] ≡ none
unfolding wrong
wrong-nil k = refl

pub wrong-cons : (k a b : ℕ) (rest : List Size) → a ≡ b → wrong (suc k) rest ≡ none → wrong k (size a b ∷ rest) ≡ none
unfolding wrong
wrong-cons k a b rest e h = rw (eq-eqb a b e) h

pub wrong-append : (k : ℕ) (xs ys : List Size) → wrong k xs ≡ none → ((j : ℕ) → wrong j ys ≡ none) → wrong k (xs ++ ys) ≡ none
unfolding wrong
wrong-append k [] ys e h = h k
wrong-append k (size a b ∷ xs) ys e h =
    let (q, r) = wrong-head k a b xs e in rw (eq-eqb a b q) (wrong-append (suc k) xs ys r h)

pub first-none : (n : ℕ) (bad : ℕ → Bool) → ((k : ℕ) → k < n → bad k ≡ false) → first n bad ≡ none
unfolding first
first-none n bad h = rw (lowest-none n bad h, le-ltb n n (omega arith))

pub beside-good : (n m : ℕ) (f g : ℕ → Bool) → ((k : ℕ) → k < n → f k ≡ false) → ((k : ℕ) → k < m → g k ≡ false)
    → (k : ℕ) → k < n + m → beside n f g k ≡ false
unfolding beside
beside-good n m f g hf hg k l = go (ltb k n) refl
  where
    go : (t : Bool) → ltb k n ≡ t → cond t (f k) (g (k - n)) ≡ false
    go true q = hf k (ltb-true k n q)
    go false q = let h : n ≤ k = ltb-false k n q in hg (k - n) (omega arith)
