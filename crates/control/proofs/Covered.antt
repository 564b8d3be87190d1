-- The covered modes are those of the list: each has a place in it, and each place has one. Assumes nothing.
use mathlib.Core.Path.{◌≡◌, refl, sym, ap, ◌∙◌}
use mathlib.Core.List.{List, [], ◌∷◌}
use mathlib.Core.Bool.{Bool, true, false, ◌||◌}
use Prim.Native.Nat.{ℕ, zero, suc, ◌<◌}
use native.Mathlib.Omega.{arith}
use borrow.Author.Tests.{eqb-true, eq-eqb}
use lib.Dec.{eqb}
use lib.ListN.{length, get_or}
use Rattle.control.specs.Modes.{modes, one_of, covered}

-- where a number stands in a list
pub record Place (l : List ℕ) (m : ℕ) : Type 0 where
  pub at : ℕ
  pub inside : at < length l
  pub is : get_or l at 0 ≡ m

pub place : (l : List ℕ) (m : ℕ) → one_of l m ≡ true → Place l m
unfolding one_of
place [] m e = let z : ◌≡◌ {A = ℕ} 0 1 = cc in absurd (omega arith)
place (x ∷ l) m e = go (eqb m x) refl e (place l m)
  where
    go : (b : Bool) → eqb m x ≡ b → (b || one_of l m) ≡ true → (one_of l m ≡ true → Place l m) → Place (x ∷ l) m
    go true d e f = record { at = 0; inside = omega arith; is = sym (eqb-true m x d) }
    go false d e f = let p = f e in record { at = suc p.at; inside = omega arith; is = p.is }

or-true : (b : Bool) → (b || true) ≡ true
or-true true = refl
or-true false = refl

one-of-at : (l : List ℕ) (k : ℕ) → k < length l → one_of l (get_or l k 0) ≡ true
unfolding one_of
one-of-at [] k h = absurd (omega arith)
one-of-at (x ∷ l) zero h = ap (λ (b : Bool). b || one_of l x) (eq-eqb x x refl)
one-of-at (x ∷ l) (suc k) h = ap (λ (b : Bool). eqb (get_or l k 0) x || b) (one-of-at l k (omega arith)) ∙ or-true (eqb (get_or l k 0) x)

pub covered-place : (m : ℕ) → covered m ≡ true → Place modes m
unfolding covered
covered-place m e = place modes m e

pub covered-at : (k : ℕ) → k < length modes → covered (get_or modes k 0) ≡ true
unfolding covered
covered-at k h = one-of-at modes k h

pub mode-lt : (k : ℕ) → get_or modes k 0 < 64
unfolding modes
mode-lt zero = omega arith
mode-lt (suc zero) = omega arith
mode-lt (suc (suc zero)) = omega arith
mode-lt (suc (suc (suc zero))) = omega arith
mode-lt (suc (suc (suc (suc zero)))) = omega arith
mode-lt (suc (suc (suc (suc (suc zero))))) = omega arith
mode-lt (suc (suc (suc (suc (suc (suc k)))))) = omega arith

pub covered-lt : (m : ℕ) → covered m ≡ true → m < 64
covered-lt m e = let p = covered-place m e in rw (← p.is) (mode-lt p.at)
