-- The lines of a text, walked one after the other. Assumes nothing.
use mathlib.Core.Path.{◌≡◌, refl, sym, ap, ap₂, ◌∙◌}
use mathlib.Core.Bool.{Bool, true, false, cond}
use mathlib.Core.List.{List, [], ◌∷◌}
use Prim.Native.Nat.{ℕ, suc, ◌<◌, ◌≤◌}
use native.Mathlib.Omega.{arith}
use lib.Dec.{eqb}
use lib.ListN.{length}
use Rattle.text.specs.Lines.{after, before, joined, lines, newline}

-- a text that is not empty: its first line, and the lines after its newline
first-line : (b : ℕ) (text : List ℕ) → lines (b ∷ text) ≡ before newline (b ∷ text) ∷ lines (after newline (b ∷ text))
unfolding lines joined before after
first-line b [] = go (eqb b 10)
  where
    go : (t : Bool) → cond t ([] ∷ []) ((b ∷ []) ∷ []) ≡ cond t [] (b ∷ []) ∷ lines (cond t [] [])
    go true = refl
    go false = refl
first-line b (c ∷ text) = go (eqb b 10) (first-line c text)
  where
    go : (t : Bool) → lines (c ∷ text) ≡ before newline (c ∷ text) ∷ lines (after newline (c ∷ text))
        → cond t ([] ∷ lines (c ∷ text)) (joined b (lines (c ∷ text)))
        ≡ cond t [] (b ∷ before newline (c ∷ text)) ∷ lines (cond t (c ∷ text) (after newline (c ∷ text)))
    go true e = refl
    go false e = ap (joined b) e

-- by the two parts that a cut gives
pub lines-on : (text line behind : List ℕ) → 0 < length text → line ≡ before newline text → behind ≡ after newline text → lines text ≡ line ∷ lines behind
lines-on [] line behind h e f = absurd (omega arith)
lines-on (b ∷ text) line behind h e f = first-line b text ∙ ap₂ (λ (l r : List ℕ). l ∷ lines r) (sym e) (sym f)

pub lines-none : (text : List ℕ) → length text ≡ 0 → lines text ≡ []
unfolding lines
lines-none [] e = refl
lines-none (b ∷ text) e = absurd (omega arith)

-- no more lines than bytes
joined_length : (b : ℕ) (ls : List (List ℕ)) (n : ℕ) → length ls ≤ n → length (joined b ls) ≤ suc n
unfolding joined
joined_length b [] n h = omega arith
joined_length b (l ∷ ls) n h = omega arith

pub lines-length : (text : List ℕ) → length (lines text) ≤ length text
unfolding lines
lines-length [] = omega arith
lines-length (b ∷ text) = go (eqb b 10) (lines-length text)
  where
    go : (t : Bool) → length (lines text) ≤ length text → length (cond t ([] ∷ lines text) (joined b (lines text))) ≤ suc (length text)
    go true h = omega arith
    go false h = joined_length b (lines text) (length text) h
