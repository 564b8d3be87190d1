-- Answers with the same text behind each are the same; and where the cell is not sent, the text has no value. Assumes nothing.
use mathlib.Core.Path.{◌≡◌, refl, sym, ap, ap₂}
use mathlib.Core.Bool.{Bool, true, false, cond, not, ◌&&◌, true≢false}
use mathlib.Core.List.{List, [], ◌∷◌, ◌++◌}
use Prim.Native.Nat.{ℕ, ◌≤◌}
use native.Mathlib.Omega.{arith}
use lib.Dec.{eqb}
use borrow.Author.Tests.{eqb-true, le-ltb}
use Rattle.sheetlines.specs.Entries.{entry_of, turn_of}
use Rattle.sheetlines.specs.Questions.{question_of}
use Rattle.std.specs.Prelude.{Option, Some, None}
use Rattle.sheetlines.specs.declared.questions.Question.{Question}
use Rattle.sheetlines.specs.declared.entries.Entry.{Entry}
use Rattle.sheetlines.specs.declared.entries.Entry.TheVariants.{Stands, Fill}
use Rattle.sheettext.specs.Texts.{bit_text, is_refused, names, value_text}
use Rattle.sheetlists.specs.Lists.{answer, answers, stands_in, valued}
use Rattle.sheetruns.specs.Told.{unsent}

module _ (v w : Option Entry → List ℕ) (mode count t : ℕ) where
  stood-turn : (e : Option Entry) → stands_in count t e ≡ true → turn_of count e ≡ t
  unfolding stands_in
  stood-turn e h = go (is_refused e) (eqb (turn_of count e) t) refl h
    where
      go : (a b : Bool) → eqb (turn_of count e) t ≡ b → (not a && b) ≡ true → turn_of count e ≡ t
      go false true q l = eqb-true _ _ q
      go false false q l = absurd (true≢false (sym l))
      go true b q l = absurd (true≢false (sym l))

  answer-same : (q : Option Question) → (turn_of count (entry_of mode count q) ≡ t → v (entry_of mode count q) ≡ w (entry_of mode count q))
      → answer v mode count t q ≡ answer w mode count t q
  unfolding answer
  answer-same q h = go (stands_in count t (entry_of mode count q)) (λ e. h (stood-turn (entry_of mode count q) e))
    where
      go : (b : Bool) → (b ≡ true → v (entry_of mode count q) ≡ w (entry_of mode count q))
          → cond b (names q (entry_of mode count q) ++ v (entry_of mode count q)) [] ≡ cond b (names q (entry_of mode count q) ++ w (entry_of mode count q)) []
      go true e = ap (λ (x : List ℕ). names q (entry_of mode count q) ++ x) (e refl)
      go false e = refl

  pub answers-same : ((q : Option Question) → turn_of count (entry_of mode count q) ≡ t → v (entry_of mode count q) ≡ w (entry_of mode count q))
      → (ls : List (List ℕ)) → answers v mode count t ls ≡ answers w mode count t ls
  unfolding answers
  answers-same h [] = refl
  answers-same h (line ∷ ls) = ap₂ (λ (a b : List ℕ). a ++ b) (answer-same (question_of line) (h (question_of line))) (answers-same h ls)

-- of a cell that is not sent no value is said
no_value : (working : Option Entry → List ℕ) (count : ℕ) (v w : Option Entry → ℕ) (e : Option Entry) → turn_of count e ≡ count → valued working count v e ≡ valued working count w e
unfolding turn_of value_text bit_text
no_value working count v w (Some (Stands coded cell)) q = let h : count ≤ cell.sent = omega arith in rw (le-ltb cell.sent count h)
no_value working count v w (Some (Fill sent)) q = refl
no_value working count v w None q = refl

pub later_same : (working : Option Entry → List ℕ) (value : Option Entry → ℕ) (mode count : ℕ) (ls : List (List ℕ)) → answers (valued working count value) mode count count ls ≡ unsent working mode count ls
unfolding unsent
later_same working value mode count ls =
    answers-same (valued working count value) (valued working count (λ e. 0)) mode count count (λ q e. no_value working count value (λ e. 0) (entry_of mode count q) e) ls
