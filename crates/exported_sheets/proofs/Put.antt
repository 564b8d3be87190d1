-- The answer of a call fits its word, and the word with the buffer is what the definition leaves. Assumes nothing.
use mathlib.Core.Path.{◌≡◌, sym, ap, subst, ◌∙◌}
use mathlib.Core.Bool.{Bool, true, false, cond}
use mathlib.Core.List.{List}
use Prim.Native.Nat.{ℕ, ◌^◌, ◌<◌}
use native.Mathlib.Omega.{arith}
use lib.Dec.{ltb}
use lib.ListN.{length}
use Rattle.runs.specs.Answers.{place_of}
use Rattle.sheets.specs.Call.{Said, sheet_call}
use Rattle.exported_sheets.specs.Left.{said, sheet_left, sheet_left_by}
use Rattle.words.specs.Words.{answer_word}

either-small : (b : Bool) (x y : Said) → place_of x.answer < 2 ^ 32 → place_of y.answer < 2 ^ 32 → place_of (cond {A = Said} b x y).answer < 2 ^ 32
either-small true x y h k = h
either-small false x y h k = k

module _ (mode count : ℕ) (without3 without4 work : Bool) (input out : List ℕ) where
  place-small : place_of (sheet_call mode count without3 without4 work input out).answer < 2 ^ 32
  unfolding sheet_call
  place-small = either-small (ltb (length out) 1200000) _ _ (omega arith) (omega arith)

  pub answer-small : (s : Said) → s ≡ sheet_call mode count without3 without4 work input out → place_of s.answer < 2 ^ 32
  answer-small s e = subst (λ (x : Said). place_of x.answer < 2 ^ 32) (sym e) place-small

pub sheet-left : (mode count w3 w4 w : ℕ) (b3 b4 b : Bool) (input old : List ℕ) → b3 ≡ said w3 → b4 ≡ said w4 → b ≡ said w
    → (s : Said) → s ≡ sheet_call mode count b3 b4 b input old
    → (word : ℕ) → word ≡ answer_word s.answer → sheet_left word s.out ≡ sheet_left_by (sheet_call mode count (said w3) (said w4) (said w) input old)
sheet-left mode count w3 w4 w b3 b4 b input old p q r s e word f =
    ap (λ (n : ℕ). sheet_left n s.out) f ∙ ap sheet_left_by (e ∙ (λ i. sheet_call mode count (p i) (q i) (r i) input old))
