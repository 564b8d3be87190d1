-- A line with a CR at its end, and without. Assumes nothing.
use mathlib.Core.Path.{◌≡◌, refl, sym}
use mathlib.Core.List.{List, [], ◌∷◌}
use Prim.Native.Nat.{ℕ, ◌-◌}
use native.Mathlib.Omega.{arith}
use borrow.Author.Tests.{eq-eqb, ne_eqb}
use lib.ListN.{get_or, length}
use Rattle.text.specs.Lines.{plain_length}

pub plain-empty : (line : List ℕ) → length line ≡ 0 → length line ≡ plain_length line
unfolding plain_length
plain-empty [] e = refl
plain-empty (b ∷ line) e = absurd (omega arith)

module _ (line : List ℕ) where
  pub plain-cut : get_or line (length line - 1) 0 ≡ 13 → length line - 1 ≡ plain_length line
  unfolding plain_length
  plain-cut e = sym (rw (eq-eqb _ _ e))

  pub plain-whole : (get_or line (length line - 1) 0 ≡ 13 → ⊥) → length line ≡ plain_length line
  unfolding plain_length
  plain-whole e = sym (rw (ne_eqb _ _ e))
