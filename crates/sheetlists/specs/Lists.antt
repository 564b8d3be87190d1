-- House matter: what a sheet says of a list, line by line.
use Rattle.std.specs.Prelude.{ℕ, ◌+◌, Bool, cond, not, ◌&&◌, List, [], ◌∷◌, ◌++◌, eqb, Option}
use Rattle.text.specs.Refused.{refused}
use Rattle.sheetlines.specs.Entries.{entry_of, turn_of}
use Rattle.sheetlines.specs.Questions.{question_of}
use Rattle.sheetlines.specs.declared.questions.Question.{Question}
use Rattle.sheetlines.specs.declared.entries.Entry.{Entry}
use Rattle.sheettext.specs.Texts.{is_refused, names, value_text}

-- ---- an answer

-- what stands behind the names of an answer: the value in a run of `count` L1 frames, and the working, which ends in a newline where there is one
abbrev pub valued : (working : Option Entry → List ℕ) (count : ℕ) (value : Option Entry → ℕ) → Option Entry → List ℕ
valued working count value e = value_text count e (value e) ++ working e

-- whether an entry stands among the answers of L1 frame t; what is refused stands among none
unfoldable pub stands_in : (count t : ℕ) → Option Entry → Bool
stands_in count t e = not (is_refused e) && eqb (turn_of count e) t

-- what is said of a question there, where this text stands behind the names
unfoldable pub answer : (behind : Option Entry → List ℕ) (mode count t : ℕ) → Option Question → List ℕ
answer behind mode count t q =
    let e = entry_of mode count q in
    cond (stands_in count t e) (names q e ++ behind e) []

-- ---- a list

-- the answers of L1 frame t, in the order of the list
unfoldable pub answers : (behind : Option Entry → List ℕ) (mode count t : ℕ) → List (List ℕ) → List ℕ
answers behind mode count t [] = []
answers behind mode count t (line ∷ rest) = answer behind mode count t (question_of line) ++ answers behind mode count t rest

-- the refused lines by number, the first of these lines having this one
unfoldable pub refusal : (mode count number : ℕ) → (line : List ℕ) → List ℕ
refusal mode count number line = cond (is_refused (entry_of mode count (question_of line))) (refused number) []

unfoldable pub refusals : (mode count number : ℕ) → List (List ℕ) → List ℕ
refusals mode count number [] = []
refusals mode count number (line ∷ rest) = refusal mode count number line ++ refusals mode count (number + 1) rest

-- how many lines are answered
unfoldable pub answered : (mode count : ℕ) → List (List ℕ) → ℕ
answered mode count [] = 0
answered mode count (line ∷ rest) = cond (is_refused (entry_of mode count (question_of line))) 0 1 + answered mode count rest

-- how many lines stand among the answers of L1 frame t
abbrev pub asks : (mode count t : ℕ) → Option Question → ℕ
asks mode count t q = cond (stands_in count t (entry_of mode count q)) 1 0

unfoldable pub asking : (mode count t : ℕ) → List (List ℕ) → ℕ
asking mode count t [] = 0
asking mode count t (line ∷ rest) = asks mode count t (question_of line) + asking mode count t rest
