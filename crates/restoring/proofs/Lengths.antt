-- What the code finds of the lengths. Assumes nothing.
use mathlib.Core.Path.{◌≡◌, refl, sym, subst, ◌∙◌}
use mathlib.Core.Bool.{Bool, true, false, cond}
use mathlib.Core.Logic.{◌⊎◌, inl, inr}
use mathlib.Core.Option.{Option, none, some, some-injective, none-ne-some}
use mathlib.Core.List.{List}
use Prim.Native.Nat.{ℕ, ◌≤◌}
use native.Mathlib.Omega.{arith}
use lib.Dec.{eqb}
use lib.ListN.{length}
use borrow.Author.Tests.{eq-eqb, ne_eqb}
use Rattle.runs.specs.declared.Answer.{Answer}
use Rattle.runs.specs.declared.Answer.TheVariants.{WrongLength}
use Rattle.runs.specs.Answers.{place_of}
use Rattle.runs.specs.Causes.{at, wrong}
use Rattle.decoding.specs.Outcomes.{lengths}
use Rattle.restoring.specs.Restored.{Settled, Restored}

-- by what the tests of the two lengths say
verdict : Bool → Bool → Option Answer
verdict cells frame = at WrongLength (cond cells (cond frame none (some 1)) (some 0))

module _ (cells frame : List ℕ) where
  by_tests : lengths cells frame ≡ verdict (eqb (length cells) 200) (eqb (length frame) 10)
  unfolding lengths wrong verdict
  by_tests = refl

  pub lengths-cells : (length cells ≡ 200 → ⊥) → lengths cells frame ≡ some (WrongLength 0)
  unfolding verdict
  lengths-cells h = by_tests ∙ rw (ne_eqb (length cells) 200 h)

  pub lengths-frame : length cells ≡ 200 → (length frame ≡ 10 → ⊥) → lengths cells frame ≡ some (WrongLength 1)
  unfolding verdict
  lengths-frame e h = by_tests ∙ rw (eq-eqb (length cells) 200 e, ne_eqb (length frame) 10 h)

  pub lengths-right : length cells ≡ 200 → length frame ≡ 10 → lengths cells frame ≡ none
  unfolding verdict
  lengths-right e f = by_tests ∙ rw (eq-eqb (length cells) 200 e, eq-eqb (length frame) 10 f)

abbrev placed : Option Answer → ℕ
placed none = 0
placed (some cause) = place_of cause

verdict-place : (p q : Bool) → placed (verdict p q) ≤ 1
unfolding verdict
verdict-place true true = omega arith
verdict-place true false = omega arith
verdict-place false q = omega arith

pub wrong-place : (cells frame : List ℕ) (cause : Answer) → lengths cells frame ≡ some cause → place_of cause ≤ 1
wrong-place cells frame cause e =
    subst (λ (o : Option Answer). placed o ≤ 1) (sym (by_tests cells frame) ∙ e) (verdict-place (eqb (length cells) 200) (eqb (length frame) 10))

-- the lengths are right, or one is wrong
pub known : (o : Option Answer) → (o ≡ none) ⊎ ((cause : Answer) × (o ≡ some cause))
known none = inl refl
known (some cause) = inr (cause, refl)

-- a refused call, and one that is not
pub restored-wrong : (cells before : List ℕ) (r : Answer) → lengths cells before ≡ some r → Restored cells before before r
restored-wrong cells before r l =
    record {
      wrong = λ cause e. (some-injective r cause (sym l ∙ e), refl);
      right = λ e. absurd (none-ne-some r (sym e ∙ l));
    }

pub restored-right : (cells before after : List ℕ) (r : Answer) → lengths cells before ≡ none → Settled cells before after r → Restored cells before after r
restored-right cells before after r l o =
    record {
      wrong = λ cause e. absurd (none-ne-some cause (sym l ∙ e));
      right = λ e. o;
    }
