-- Seven bits, one behind the other. Assumes nothing.
use mathlib.Core.Path.{◌≡◌, sym}
use mathlib.Core.List.{List, [], ◌∷◌, ◌++◌, append-nil}
use Prim.Native.Nat.{ℕ}
use native.Mathlib.Omega.{arith}
use lib.ListN.{get_or, length}
use Rattle.text.specs.Letters.{ascii}
use Rattle.text.specs.Numbers.{decimal}
use Rattle.worktext.specs.Texts.{words}

abbrev at : List ℕ → ℕ → List ℕ
at l i = decimal (get_or l i 0) ++ ascii " "

pub seven-words : (l : List ℕ) → length l ≡ 7 → at l 0 ++ (at l 1 ++ (at l 2 ++ (at l 3 ++ (at l 4 ++ (at l 5 ++ at l 6))))) ≡ words l
unfolding words
seven-words [] e = absurd (omega arith)
seven-words (a ∷ []) e = absurd (omega arith)
seven-words (a ∷ b ∷ []) e = absurd (omega arith)
seven-words (a ∷ b ∷ c ∷ []) e = absurd (omega arith)
seven-words (a ∷ b ∷ c ∷ d ∷ []) e = absurd (omega arith)
seven-words (a ∷ b ∷ c ∷ d ∷ f ∷ []) e = absurd (omega arith)
seven-words (a ∷ b ∷ c ∷ d ∷ f ∷ g ∷ []) e = absurd (omega arith)
seven-words (a ∷ b ∷ c ∷ d ∷ f ∷ g ∷ h ∷ []) e = sym (rw (append-nil (decimal h ++ ascii " ")))
seven-words (a ∷ b ∷ c ∷ d ∷ f ∷ g ∷ h ∷ k ∷ l) e = absurd (omega arith)
