-- What the code finds of the lengths and the budget, as S-12 judges them. Assumes nothing.
use mathlib.Core.Path.{◌≡◌, refl, sym, ap, subst, ◌∙◌}
use mathlib.Core.Bool.{Bool, true, false, cond, not, ◌&&◌}
use mathlib.Core.Option.{none, some}
use mathlib.Core.List.{List, [], ◌∷◌}
use Prim.Native.Nat.{ℕ, ◌<◌, ◌≤◌}
use native.Mathlib.Decide.{ℕ_discrete}
use native.Mathlib.Omega.{arith}
use lib.Dec.{eqb, leb}
use lib.ListN.{length}
use borrow.Author.Tests.{eq-eqb, ne_eqb, le-leb, lt-leb}
use Rattle.runs.specs.declared.Answer.{Answer}
use Rattle.runs.specs.declared.Answer.TheVariants.{Success, WrongLength, WrongBudget}
use Rattle.runs.specs.Answers.{number_of, place_of}
use Rattle.runs.specs.Causes.{at, judge, when, wrong}
use Rattle.runs.proofs.Answered.{success-is}
use Rattle.decoding.specs.declared.Decoded.{Decoded}
use Rattle.decoding.specs.Outcomes.{lengths, judged, Named, Answered}

and-false : (t : Bool) → (t && false) ≡ false
and-false true = refl
and-false false = refl

-- the answer by what the tests say: of the two lengths, and of the budget
verdict : Bool → Bool → Bool → Answer
verdict cells frame budget =
    judge (at WrongLength (cond cells (cond frame none (some 1)) (some 0)) ∷ when (not budget) WrongBudget ∷ [])

module _ (cells frame : List ℕ) (budget : ℕ) where
  by_tests : judged cells frame budget ≡ verdict (eqb (length cells) 200) (eqb (length frame) 10) (leb 1 budget && leb budget 64)
  unfolding judged lengths wrong verdict
  by_tests = refl

  pub judged-cells : (length cells ≡ 200 → ⊥) → judged cells frame budget ≡ WrongLength 0
  unfolding verdict judge
  judged-cells h = by_tests ∙ rw (ne_eqb (length cells) 200 h)

  pub judged-frame : length cells ≡ 200 → (length frame ≡ 10 → ⊥) → judged cells frame budget ≡ WrongLength 1
  unfolding verdict judge
  judged-frame e h = by_tests ∙ rw (eq-eqb (length cells) 200 e, ne_eqb (length frame) 10 h)

  module _ (e : length cells ≡ 200) (f : length frame ≡ 10) where
    pub judged-none : budget ≡ 0 → judged cells frame budget ≡ WrongBudget
    unfolding verdict judge
    judged-none h =
        let l : budget < 1 = omega arith in
        by_tests ∙ rw (eq-eqb (length cells) 200 e, eq-eqb (length frame) 10 f, lt-leb 1 budget l)

    pub judged-many : 64 < budget → judged cells frame budget ≡ WrongBudget
    unfolding verdict judge
    judged-many h = by_tests ∙ rw (eq-eqb (length cells) 200 e, eq-eqb (length frame) 10 f, lt-leb budget 64 h, and-false (leb 1 budget))

    pub judged-right : 1 ≤ budget → budget ≤ 64 → judged cells frame budget ≡ Success
    unfolding verdict judge
    judged-right h l = by_tests ∙ rw (eq-eqb (length cells) 200 e, eq-eqb (length frame) 10 f, le-leb 1 budget h, le-leb budget 64 l)

pub length-not : (place : ℕ) → WrongLength place ≡ Success → ⊥
length-not place e = omega (arith, ap number_of e)

pub budget-not : WrongBudget ≡ Success → ⊥
budget-not e = omega (arith, ap number_of e)

-- the budget of a search that was not refused
pub budget-low : (cells frame : List ℕ) (budget : ℕ) → judged cells frame budget ≡ Success → budget ≤ 64
budget-low cells frame budget e =
    elim (native.Mathlib.Decide.dec_le budget 64) [
      | yes l ↦ l
      | no l ↦ absurd (many (omega arith))
    ]
  where
    many : 64 < budget → ⊥
    many l =
        elim (ℕ_discrete (length cells) 200) [
          | no n ↦ length-not 0 (sym (judged-cells cells frame budget n) ∙ e)
          | yes p ↦
              elim (ℕ_discrete (length frame) 10) [
                | no n ↦ length-not 1 (sym (judged-frame cells frame budget p n) ∙ e)
                | yes q ↦ budget-not (sym (judged-many cells frame budget p q l) ∙ e)
              ]
        ]

pub judged-place : (cells frame : List ℕ) (budget : ℕ) → place_of (judged cells frame budget) ≤ 1
unfolding verdict judge
judged-place cells frame budget =
    subst (λ (a : Answer). place_of a ≤ 1) (sym (by_tests cells frame budget))
    (go (eqb (length cells) 200) (eqb (length frame) 10) (leb 1 budget && leb budget 64))
  where
    go : (p q t : Bool) → place_of (verdict p q t) ≤ 1
    go true true true = omega arith
    go true true false = omega arith
    go true false t = omega arith
    go false q t = omega arith

pub is-success : (a : Answer) → Dec (a ≡ Success)
is-success a =
    elim (ℕ_discrete (number_of a) 0) [
      | yes e ↦ yes (success-is a e)
      | no n ↦ no (λ e. n (ap number_of e))
    ]

module _ (cells before : List ℕ) (budget : ℕ) (r : Decoded) where
  pub answered-refused : (a : Answer) → (a ≡ Success → ⊥) → judged cells before budget ≡ a → (r.answer ≡ a) × (r.distance ≡ 0) × (r.margin ≡ 0)
      → Answered cells before before budget r
  answered-refused a n j h =
      record {
        answer = h.0 ∙ sym j;
        named = λ s. absurd (n (sym j ∙ s));
        refused = λ s. record { distance = h.1; margin = h.2; unchanged = refl };
      }

  pub answered-found : (after : List ℕ) → judged cells before budget ≡ Success → r.answer ≡ Success → Named cells after budget r
      → Answered cells before after budget r
  answered-found after j a n = record { answer = a ∙ sym j; named = λ s. n; refused = λ s. absurd (s j) }
