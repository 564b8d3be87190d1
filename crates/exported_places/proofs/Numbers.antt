-- What a working of the C library leaves, case by case. Assumes nothing.
use mathlib.Core.Path.{◌≡◌, refl, sym, ap, ap₂, ◌∙◌}
use mathlib.Core.List.{List, [], ◌∷◌, ◌++◌}
use Prim.Native.Nat.{ℕ}
use native.Mathlib.Omega.{arith}
use borrow.Author.Tests.{eq-eqb, ne_eqb}
use lib.ListN.{length, get_or, take, drop}
use Rattle.runs.specs.declared.Answer.TheVariants.{WrongLength}
use Rattle.runs.specs.Answers.{number_of}
use Rattle.words.specs.Words.{answer_word}
use Rattle.workings.specs.declared.Worked.{Worked}
use Rattle.exported_places.specs.Left.{numbers_of, working_left, working_left_by}

-- a list of seven is its seven numbers
pub seven : (xs : List ℕ) → length xs ≡ 7
    → xs ≡ get_or xs 0 0 ∷ get_or xs 1 0 ∷ get_or xs 2 0 ∷ get_or xs 3 0 ∷ get_or xs 4 0 ∷ get_or xs 5 0 ∷ get_or xs 6 0 ∷ []
seven (a ∷ b ∷ c ∷ d ∷ e ∷ f ∷ g ∷ []) _ = refl
seven [] l = absurd (omega (arith, l))
seven (a ∷ []) l = absurd (omega (arith, l))
seven (a ∷ b ∷ []) l = absurd (omega (arith, l))
seven (a ∷ b ∷ c ∷ []) l = absurd (omega (arith, l))
seven (a ∷ b ∷ c ∷ d ∷ []) l = absurd (omega (arith, l))
seven (a ∷ b ∷ c ∷ d ∷ e ∷ []) l = absurd (omega (arith, l))
seven (a ∷ b ∷ c ∷ d ∷ e ∷ f ∷ []) l = absurd (omega (arith, l))
seven (a ∷ b ∷ c ∷ d ∷ e ∷ f ∷ g ∷ h ∷ xs) l = absurd (omega (arith, l))

-- the list of the numbers, told one by one
pub numbers-are : (w : Worked) → length w.bits ≡ 7 → length w.scrambling ≡ 7 → (b0 b1 b2 b3 b4 b5 b6 s0 s1 s2 s3 s4 s5 s6 : ℕ)
    → b0 ≡ get_or w.bits 0 0 → b1 ≡ get_or w.bits 1 0 → b2 ≡ get_or w.bits 2 0 → b3 ≡ get_or w.bits 3 0
    → b4 ≡ get_or w.bits 4 0 → b5 ≡ get_or w.bits 5 0 → b6 ≡ get_or w.bits 6 0
    → s0 ≡ get_or w.scrambling 0 0 → s1 ≡ get_or w.scrambling 1 0 → s2 ≡ get_or w.scrambling 2 0 → s3 ≡ get_or w.scrambling 3 0
    → s4 ≡ get_or w.scrambling 4 0 → s5 ≡ get_or w.scrambling 5 0 → s6 ≡ get_or w.scrambling 6 0
    → let g = w.writing in
    let p = g.position in
    w.number ∷ w.generator
    ∷ b0 ∷ b1 ∷ b2 ∷ b3 ∷ b4 ∷ b5 ∷ b6
    ∷ s0 ∷ s1 ∷ s2 ∷ s3 ∷ s4 ∷ s5 ∷ s6
    ∷ w.sum ∷ w.coded ∷ g.step ∷ g.k ∷ p.block ∷ p.row ∷ p.partition ∷ p.column ∷ g.cell ∷ []
    ≡ numbers_of w
unfolding numbers_of
numbers-are w lb ls b0 b1 b2 b3 b4 b5 b6 s0 s1 s2 s3 s4 s5 s6 p0 p1 p2 p3 p4 p5 p6 q0 q1 q2 q3 q4 q5 q6 =
    let g = w.writing in
    let p = g.position in
    let rest = w.sum ∷ w.coded ∷ g.step ∷ g.k ∷ p.block ∷ p.row ∷ p.partition ∷ p.column ∷ g.cell ∷ [] in
    (λ i. w.number ∷ w.generator ∷ p0 i ∷ p1 i ∷ p2 i ∷ p3 i ∷ p4 i ∷ p5 i ∷ p6 i ∷ q0 i ∷ q1 i ∷ q2 i ∷ q3 i ∷ q4 i ∷ q5 i ∷ q6 i ∷ rest)
    ∙ ap₂ (λ (x y : List ℕ). w.number ∷ w.generator ∷ (x ++ (y ++ rest))) (sym (seven w.bits lb)) (sym (seven w.scrambling ls))

-- two numbers, seven, seven and the rest come apart again
parted : (x y rest : List ℕ) (m n : ℕ) → length x ≡ 7 → length y ≡ 7
    → let all = m ∷ n ∷ (x ++ (y ++ rest)) in
    (take 2 all ≡ m ∷ n ∷ []) × (take 7 (drop 2 all) ≡ x) × (take 7 (drop 9 all) ≡ y) × (drop 16 all ≡ rest)
parted x y rest m n lx ly = rw (seven x lx, seven y ly) (refl, refl, refl, refl)

-- each number of a working stands at its place of the header's `layer1_worked`
pub numbers-fields : (w : Worked) → length w.bits ≡ 7 → length w.scrambling ≡ 7
    → let g = w.writing in
    let p = g.position in
    (take 2 (numbers_of w) ≡ w.number ∷ w.generator ∷ [])
    × (take 7 (drop 2 (numbers_of w)) ≡ w.bits)
    × (take 7 (drop 9 (numbers_of w)) ≡ w.scrambling)
    × (drop 16 (numbers_of w) ≡ w.sum ∷ w.coded ∷ g.step ∷ g.k ∷ p.block ∷ p.row ∷ p.partition ∷ p.column ∷ g.cell ∷ [])
unfolding numbers_of
numbers-fields w lb ls =
    let g = w.writing in
    let p = g.position in
    let rest = w.sum ∷ w.coded ∷ g.step ∷ g.k ∷ p.block ∷ p.row ∷ p.partition ∷ p.column ∷ g.cell ∷ [] in
    parted w.bits w.scrambling rest w.number w.generator lb ls

module _ (w : Worked) (out : List ℕ) where
  pub refused-left : (number_of w.answer ≡ 0 → ⊥) → (word : ℕ) → word ≡ answer_word w.answer → working_left word out ≡ working_left_by w out
  unfolding working_left_by
  refused-left h word e =
      ap (λ (r : ℕ). working_left r out) e
      ∙ sym (rw (ne_eqb (number_of w.answer) 0 h))

  module _ (done : number_of w.answer ≡ 0) where
    pub length-left : (length out ≡ 25 → ⊥) → (word : ℕ) → word ≡ answer_word (WrongLength 4) → working_left word out ≡ working_left_by w out
    unfolding working_left_by
    length-left h word e =
        ap (λ (r : ℕ). working_left r out) e
        ∙ sym (rw (eq-eqb (number_of w.answer) 0 done, ne_eqb (length out) 25 h))

    pub done-left : length out ≡ 25 → (after : List ℕ) → after ≡ numbers_of w → working_left 0 after ≡ working_left_by w out
    unfolding working_left_by
    done-left h after e =
        ap (λ (xs : List ℕ). working_left 0 xs) e
        ∙ sym (rw (eq-eqb (number_of w.answer) 0 done, eq-eqb (length out) 25 h))

pub left_by : {w x : Worked} (out : List ℕ) → w ≡ x → working_left_by w out ≡ working_left_by x out
left_by out e = ap (λ (y : Worked). working_left_by y out) e
