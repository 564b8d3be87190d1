-- The empty line of an input, from byte to byte. Assumes nothing.
use mathlib.Core.Path.{◌≡◌, sym, ap, ◌∙◌}
use mathlib.Core.Bool.{Bool, true, false, ◌&&◌}
use mathlib.Core.List.{List, ◌∷◌}
use Prim.Native.Nat.{ℕ, suc, ◌+◌, ◌<◌, ◌≤◌}
use native.Mathlib.Nat.{add-zero}
use native.Mathlib.Numerals.{add-one}
use native.Mathlib.Omega.{arith}
use lib.Dec.{eqb, ltb}
use lib.ListN.{get_or, length, drop, drop_of_length-le}
use lib.Seq.{drop-cons, get_or-drop}
use borrow.Author.Tests.{eq-eqb, ne_eqb}
use Rattle.sheetinputs.specs.Inputs.{empty_at, empty_line}

module _ (input : List ℕ) (i : ℕ) where
  first-is : get_or (drop i input) 0 0 ≡ get_or input i 0
  first-is = get_or-drop i input 0 0 ∙ ap (λ (k : ℕ). get_or input k 0) (add-zero i)

  second_is : get_or (drop i input) 1 0 ≡ get_or input (i + 1) 0
  second_is = get_or-drop i input 1 0

  pub at-newline : get_or input i 0 ≡ 10 → 1 ≡ empty_at (drop i input)
  unfolding empty_at
  at-newline e = sym (rw (eq-eqb _ _ (first-is ∙ e)))

  pub at_other : (get_or input i 0 ≡ 10 → ⊥) → (get_or input i 0 ≡ 13 → ⊥) → 0 ≡ empty_at (drop i input)
  unfolding empty_at
  at_other n r = sym (rw (ne_eqb _ _ (λ e. n (sym first-is ∙ e)), ne_eqb _ _ (λ e. r (sym first-is ∙ e))))

  pub at_return : (get_or input i 0 ≡ 10 → ⊥) → get_or input i 0 ≡ 13 → (get_or input (i + 1) 0 ≡ 10 → ⊥) → 0 ≡ empty_at (drop i input)
  unfolding empty_at
  at_return n r m = sym (rw (ne_eqb _ _ (λ e. n (sym first-is ∙ e)), eq-eqb _ _ (first-is ∙ r), ne_eqb _ _ (λ e. m (sym second_is ∙ e))))

  pub at_both : (get_or input i 0 ≡ 10 → ⊥) → get_or input i 0 ≡ 13 → get_or input (i + 1) 0 ≡ 10 → 2 ≡ empty_at (drop i input)
  unfolding empty_at
  at_both n r m = sym (rw (ne_eqb _ _ (λ e. n (sym first-is ∙ e)), eq-eqb _ _ (first-is ∙ r), eq-eqb _ _ (second_is ∙ m)))

  -- past the end stands 0
  pub past_end : length input ≤ i → get_or input i 0 ≡ 10 → ⊥
  past_end h e = let z : get_or (drop i input) 0 0 ≡ 0 = ap (λ (l : List ℕ). get_or l 0 0) (drop_of_length-le input {i = i} h) in omega (arith, first-is)

module _ (input : List ℕ) (i : ℕ) (fresh : Bool) where
  opened : i < length input → empty_line fresh (drop i input) ≡ empty_line fresh (get_or input i 0 ∷ drop (suc i) input)
  opened h = ap (empty_line fresh) (drop-cons input i 0 h)

  tested : i < length input → empty_at (drop i input) ≡ empty_at (get_or input i 0 ∷ drop (suc i) input)
  tested h = ap empty_at (drop-cons input i 0 h)

  pub empty-here : i < length input → (size : ℕ) → size ≡ empty_at (drop i input) → (fresh && ltb 0 size) ≡ true → empty_line fresh (drop i input) ≡ 0
  unfolding empty_line
  empty-here h size s e = opened h ∙ rw (ap (λ (k : ℕ). fresh && ltb 0 k) (sym (s ∙ tested h)) ∙ e)

  pub empty-later : i < length input → (size : ℕ) → size ≡ empty_at (drop i input) → (fresh && ltb 0 size) ≡ false
      → empty_line fresh (drop i input) ≡ 1 + empty_line (eqb (get_or input i 0) 10) (drop (i + 1) input)
  unfolding empty_line
  empty-later h size s e = opened h ∙ rw (ap (λ (k : ℕ). fresh && ltb 0 k) (sym (s ∙ tested h)) ∙ e, add-one i) (omega arith)

  pub empty-nowhere : length input ≤ i → empty_line fresh (drop i input) ≡ 0
  unfolding empty_line
  empty-nowhere h = rw (drop_of_length-le input {i = i} h)
