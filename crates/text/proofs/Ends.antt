-- Where a text's first separator stands, and the parts that it cuts. Assumes nothing.
use mathlib.Core.Path.{◌≡◌, refl, sym, ap, ◌∙◌}
use Prim.Native.Nat.{ℕ, suc, ◌+◌, ◌-◌, ◌≤◌, ◌<◌}
use mathlib.Core.Bool.{Bool, true, false, cond}
use mathlib.Core.List.{List, [], ◌∷◌}
use native.Mathlib.Numerals.{add-one}
use native.Mathlib.Omega.{arith}
use borrow.Author.Tests.{eq-eqb, ne_eqb}
use lib.Dec.{eqb}
use lib.ListN.{length, take, drop, get_or, drop_of_length-le, length-drop}
use lib.Seq.{drop-cons, take_all}
use Rattle.text.specs.Lines.{after, before}

-- from place i on: at i, later, or nowhere
module _ (separator : ℕ) (text : List ℕ) (i : ℕ) where
  opened : i < length text → before separator (drop i text) ≡ before separator (get_or text i 0 ∷ drop (suc i) text)
  opened h = ap (before separator) (drop-cons text i 0 h)

  pub end-here : i < length text → get_or text i 0 ≡ separator → length (before separator (drop i text)) ≡ 0
  unfolding before
  end-here h e = ap length (opened h) ∙ rw (eq-eqb _ _ e)

  pub end_later : i < length text → (get_or text i 0 ≡ separator → ⊥)
      → length (before separator (drop i text)) ≡ 1 + length (before separator (drop (i + 1) text))
  unfolding before
  end_later h e = ap length (opened h) ∙ rw (ne_eqb _ _ e, add-one i) (omega arith)

  pub end-nowhere : length text ≤ i → length (before separator (drop i text)) ≡ 0
  unfolding before
  end-nowhere h = rw (drop_of_length-le text {i = i} h)

part_to_end : (n : ℕ) (text : List ℕ) → take (length text - n) (drop n text) ≡ drop n text
part_to_end n text = take_all (length text - n) (drop n text) (omega (arith, length-drop n text))

-- the parts before and after it
module _ (separator : ℕ) where
  pub before-taken : (text : List ℕ) → take (length (before separator text)) text ≡ before separator text
  unfolding before
  before-taken [] = refl
  before-taken (b ∷ text) = go (eqb b separator) (before-taken text)
    where
      go : (t : Bool) → take (length (before separator text)) text ≡ before separator text
          → take (length (cond t [] (b ∷ before separator text))) (b ∷ text) ≡ cond t [] (b ∷ before separator text)
      go true e = refl
      go false e = ap (λ (l : List ℕ). b ∷ l) e

  pub after-dropped : (text : List ℕ) → drop (suc (length (before separator text))) text ≡ after separator text
  unfolding before after
  after-dropped [] = refl
  after-dropped (b ∷ text) = go (eqb b separator) (after-dropped text)
    where
      go : (t : Bool) → drop (suc (length (before separator text))) text ≡ after separator text
          → drop (length (cond t [] (b ∷ before separator text))) text ≡ cond t text (after separator text)
      go true e = refl
      go false e = e

  -- as parts of the text by their ends
  pub after-part : (text : List ℕ) (n : ℕ) → n ≡ length (before separator text)
      → take (length text - (n + 1)) (drop (n + 1) text) ≡ after separator text
  after-part text n e = part_to_end (n + 1) text ∙ rw (add-one n, e) (after-dropped text)

  pub none-part : (text : List ℕ) (n : ℕ) → n ≡ length (before separator text) → length text ≤ n
      → take (length text - n) (drop n text) ≡ after separator text
  none-part text n e h =
      part_to_end n text ∙ drop_of_length-le text {i = n} h
      ∙ sym (sym (after-dropped text) ∙ drop_of_length-le text {i = suc (length (before separator text))} (omega arith))
