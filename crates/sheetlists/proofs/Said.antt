-- What is said of a line, case by case, and of the lines from one on. Assumes nothing.
use mathlib.Core.Path.{◌≡◌, sym, ap, ap₂, ◌∙◌}
use mathlib.Core.Bool.{Bool, true, false, cond}
use mathlib.Core.List.{List, [], ◌∷◌, ◌++◌}
use Prim.Native.Nat.{ℕ, ◌+◌, ◌*◌, ◌≤◌}
use native.Mathlib.Omega.{arith}
use lib.Dec.{eqb}
use Rattle.text.specs.Refused.{refused}
use Rattle.text.specs.Put.{Put}
use Rattle.text.proofs.Stored.{put-text, put-most}
use Rattle.text.proofs.Left.{put-nothing}
use Rattle.sheetlines.specs.Entries.{entry_of, turn_of}
use Rattle.sheetlines.specs.Questions.{question_of}
use Rattle.std.specs.Prelude.{Option}
use Rattle.sheetlines.specs.declared.questions.Question.{Question}
use Rattle.sheetlines.specs.declared.entries.Entry.{Entry}
use Rattle.sheettext.specs.Texts.{is_refused, names, value_text}
use Rattle.sheetlists.specs.Lists.{answer, answered, answers, asking, asks, refusal, refusals, stands_in, valued}

-- ---- a line

pub stood : (count t : ℕ) (e : Option Entry) (b : Bool) (n : ℕ) → b ≡ is_refused e → n ≡ turn_of count e → b ≡ false → eqb n t ≡ stands_in count t e
unfolding stands_in
stood count t e b n is n-is f = sym (rw (sym is ∙ f, sym n-is))

pub refused-stands : (count t : ℕ) (e : Option Entry) (b : Bool) → b ≡ is_refused e → b ≡ true → false ≡ stands_in count t e
unfolding stands_in
refused-stands count t e b is f = sym (rw (sym is ∙ f))

module _ (behind : Option Entry → List ℕ) (mode count t : ℕ) (line : List ℕ) (q : Option Question) (is : q ≡ question_of line) (e : Option Entry) (e-is : e ≡ entry_of mode count q)
    (b : Bool) (b-is : b ≡ stands_in count t e) (a : List ℕ) (at : ℕ) where
  entry-is : e ≡ entry_of mode count (question_of line)
  entry-is = e-is ∙ ap (entry_of mode count) is

  test-is : stands_in count t (entry_of mode count (question_of line)) ≡ b
  test-is = ap (stands_in count t) (sym entry-is) ∙ sym b-is

  pub not-asked : b ≡ false → Put a a at at (782 * asks mode count t (question_of line)) (answer behind mode count t (question_of line))
  unfolding answer
  not-asked f = put-nothing a at _ _ (rw (test-is ∙ f))

  pub is-asked : b ≡ true → (z : List ℕ) (end m : ℕ) → m ≤ 782 → Put a z at end m (names q e ++ behind e)
      → Put a z at end (782 * asks mode count t (question_of line)) (answer behind mode count t (question_of line))
  unfolding answer
  is-asked f z end m fits p =
      let test : stands_in count t (entry_of mode count (question_of line)) ≡ true = test-is ∙ f in
      let told : names q e ++ behind e ≡ answer behind mode count t (question_of line) =
      ap₂ (λ (r : Option Question) (x : Option Entry). names r x ++ behind x) is entry-is
      ∙ sym (ap (λ (b : Bool). cond b (names (question_of line) (entry_of mode count (question_of line)) ++ behind (entry_of mode count (question_of line))) []) test) in
      let one : asks mode count t (question_of line) ≡ 1 = ap (λ (b : Bool). cond b 1 0) test in
      put-most (omega arith) (put-text told p)

-- the value that the code read, and what is put behind it
pub value-known : (count : ℕ) (e : Option Entry) (value : Option Entry → ℕ) (working : Option Entry → List ℕ) {v : ℕ} → v ≡ value e → value_text count e v ++ working e ≡ valued working count value e
value-known count e value working f = ap (λ (x : ℕ). value_text count e x ++ working e) f

module _ (mode count number : ℕ) (line a : List ℕ) (at : ℕ) (b : Bool) (is : b ≡ is_refused (entry_of mode count (question_of line))) where
  pub said-refused : b ≡ true → (z : List ℕ) (end : ℕ) → Put a z at end 92 (refused number) → Put a z at end 92 (refusal mode count number line)
  unfolding refusal
  said-refused e z end p = put-text (sym (rw (sym is ∙ e))) p

  pub said-nothing : b ≡ false → Put a a at at 92 (refusal mode count number line)
  unfolding refusal
  said-nothing e = put-nothing a at 92 _ (rw (sym is ∙ e))

-- ---- the lines from one on

module _ (line : List ℕ) (ls rest : List (List ℕ)) (e : ls ≡ line ∷ rest) where
  pub answers-on : (behind : Option Entry → List ℕ) (mode count t : ℕ)
      → answers behind mode count t ls ≡ answer behind mode count t (question_of line) ++ answers behind mode count t rest
  unfolding answers
  answers-on behind mode count t = ap (answers behind mode count t) e

  pub asking-on : (mode count t : ℕ) → asking mode count t ls ≡ asks mode count t (question_of line) + asking mode count t rest
  unfolding asking
  asking-on mode count t = ap (asking mode count t) e

  pub refusals-on : (mode count number : ℕ) → refusals mode count number ls ≡ refusal mode count number line ++ refusals mode count (number + 1) rest
  unfolding refusals
  refusals-on mode count number = ap (refusals mode count number) e

  pub answered-on : (mode count : ℕ) → answered mode count ls ≡ cond (is_refused (entry_of mode count (question_of line))) 0 1 + answered mode count rest
  unfolding answered
  answered-on mode count = ap (answered mode count) e

module _ (ls : List (List ℕ)) (e : ls ≡ []) where
  pub answers-none : (behind : Option Entry → List ℕ) (mode count t : ℕ) → answers behind mode count t ls ≡ []
  unfolding answers
  answers-none behind mode count t = ap (answers behind mode count t) e

  pub refusals-none : (mode count number : ℕ) → refusals mode count number ls ≡ []
  unfolding refusals
  refusals-none mode count number = ap (refusals mode count number) e

  pub answered-none : (mode count : ℕ) → answered mode count ls ≡ 0
  unfolding answered
  answered-none mode count = ap (answered mode count) e

-- one more answer, or none
pub counted-on : (mode count n m : ℕ) (line : List ℕ) (ls rest : List (List ℕ)) (total : ℕ) (b : Bool) → ls ≡ line ∷ rest → b ≡ is_refused (entry_of mode count (question_of line))
    → n + answered mode count ls ≡ total → m ≡ n + cond b 0 1 → m + answered mode count rest ≡ total
counted-on mode count n m line ls rest total b e is w s =
    let f = answered-on line ls rest e mode count in
    let g : ◌≡◌ {A = ℕ} (cond b 0 1) (cond (is_refused (entry_of mode count (question_of line))) 0 1) = ap (λ (x : Bool). cond x 0 1) is in
    omega arith

pub one_at_most : (n m : ℕ) (b : Bool) → m ≡ n + cond b 0 1 → m ≤ n + 1
one_at_most n m true e = omega arith
one_at_most n m false e = omega arith
