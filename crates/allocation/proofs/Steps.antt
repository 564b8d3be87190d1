-- The steps of the loops: sums, owners and turns. Assumes nothing.
use mathlib.Core.Path.{◌≡◌, refl, ap, ◌∙◌}
use mathlib.Core.Bool.{Bool, true, false, ◌&&◌}
use mathlib.Core.List.{List}
use Prim.Native.Nat.{ℕ, suc, ◌+◌, ◌-◌, ◌%◌, ◌<◌, ◌≤◌}
use native.Mathlib.Omega.{arith}
use native.Mathlib.Numerals.{add-one}
use borrow.Author.Tests.{lt-ltb, le-ltb}
use lib.ListN.{get_or, set}
use Rattle.allocation.specs.declared.Grants.{Grants}
use Rattle.allocation.specs.Allocation.{total, turn, turns, first}
use Rattle.allocation.specs.Owners.{owner_of}

pub total-more : (k : ℕ) (l : List ℕ) → total (k + 1) l ≡ total k l + get_or l k 0
unfolding total
total-more k l = rw (add-one k)

pub total-none : (l : List ℕ) → 0 ≡ total 0 l
unfolding total
total-none l = refl

module _ (given : List ℕ) (d rest : ℕ) (h : d < 8) where
  one_left : 8 - d ≡ suc (8 - (d + 1))
  one_left = omega arith

  pub here : rest < get_or given d 0 → owner_of (8 - d) d given rest ≡ d
  unfolding owner_of
  here l = ap (λ (k : ℕ). owner_of k d given rest) one_left ∙ rw (lt-ltb rest (get_or given d 0) l)

  pub further : get_or given d 0 ≤ rest → owner_of (8 - d) d given rest ≡ owner_of (8 - (d + 1)) (d + 1) given (rest - get_or given d 0)
  unfolding owner_of
  further l = ap (λ (k : ℕ). owner_of k d given rest) one_left ∙ rw (le-ltb rest (get_or given d 0) l, add-one d)

pub nobody : (given : List ℕ) (d rest : ℕ) → 8 ≤ d → owner_of (8 - d) d given rest ≡ 255
unfolding owner_of
nobody given d rest h = let e : 8 - d ≡ 0 = omega arith in rw e

-- ---- a turn

and_no : (b : Bool) → b && false ≡ false
and_no true = refl
and_no false = refl

module _ (s : Grants) (waiting : List ℕ) (d : ℕ) where
  pub no_place : s.left ≡ 0 → s ≡ turn waiting d s
  unfolding turn
  no_place e = rw (le-ltb 0 s.left (omega arith))

  pub no-message : get_or waiting d 0 ≤ get_or s.given d 0 → s ≡ turn waiting d s
  unfolding turn
  no-message h = rw (le-ltb (get_or s.given d 0) (get_or waiting d 0) h, and_no)

  pub taken : (s.left ≡ 0 → ⊥) → get_or s.given d 0 < get_or waiting d 0 → (n : ℕ) → n ≡ get_or s.given d 0 + 1
      → ◌≡◌ {A = Grants} (record { given = set s.given d n; left = s.left - 1 }) (turn waiting d s)
  unfolding turn
  taken p h n e =
      let l : 0 < s.left = omega (arith, p) in
      rw (lt-ltb 0 s.left l, lt-ltb (get_or s.given d 0) (get_or waiting d 0) h, e)

pub turns_more : (shares waiting : List ℕ) (n : ℕ) → turn waiting (n % 8) (turns shares waiting n) ≡ turns shares waiting (n + 1)
unfolding turns
turns_more shares waiting n = rw (add-one n)

pub turns-none : (shares waiting : List ℕ) → first shares waiting ≡ turns shares waiting 0
unfolding turns
turns-none shares waiting = refl
