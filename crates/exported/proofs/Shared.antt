-- What sharing places answers fits its word, and the word with the place list is what the definition leaves. Assumes nothing.
use mathlib.Core.Path.{◌≡◌, sym, ap, ap₂, subst, ◌∙◌}
use mathlib.Core.Bool.{Bool, true, false, cond}
use mathlib.Core.List.{List}
use Prim.Native.Nat.{ℕ, ◌^◌, ◌<◌}
use native.Mathlib.Omega.{arith}
use lib.Dec.{eqb, ltb}
use lib.ListN.{length}
use Rattle.runs.specs.declared.Answer.{Answer}
use Rattle.runs.specs.declared.Answer.TheVariants.{Success, WrongLength, SharesTooMany}
use Rattle.runs.specs.Answers.{place_of}
use Rattle.allocation.specs.Allocation.{Outcome, granted, outcome, places_of, shared, total}
use Rattle.exported.specs.Left.{places_left, places_left_by}
use Rattle.words.specs.Words.{answer_word, eight_of}

shared-place : (shares waiting places : List ℕ) → place_of (shared shares waiting places).answer < 2 ^ 32
unfolding shared
shared-place shares waiting places = go (eqb (length places) 16) (ltb 16 (total 8 shares))
  where
    go : (a b : Bool) → place_of (cond a (cond b (outcome SharesTooMany places) (outcome Success (places_of (granted shares waiting)))) (outcome (WrongLength 0) places)).answer < 2 ^ 32
    go true true = omega arith
    go true false = omega arith
    go false b = omega arith

module _ (answer : Answer) (shares waiting entry exit : List ℕ) (e : outcome answer exit ≡ shared shares waiting entry) where
  pub answer-small : place_of answer < 2 ^ 32
  answer-small = subst (λ (o : Outcome). place_of o.answer < 2 ^ 32) (sym e) (shared-place shares waiting entry)

  pub places-left : (s w : ℕ) → shares ≡ eight_of s → waiting ≡ eight_of w → (word : ℕ) → word ≡ answer_word answer
      → places_left word exit ≡ places_left_by (shared (eight_of s) (eight_of w) entry)
  places-left s w h k word a =
      ap (λ (n : ℕ). places_left n exit) a ∙ ap places_left_by (e ∙ ap₂ (λ (x y : List ℕ). shared x y entry) h k)
