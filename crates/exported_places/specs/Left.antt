-- House matter: what a working of the C library leaves: its word, and the numbers in the buffer that it is lent.
use Rattle.std.specs.Prelude.{ℕ, ◌^◌, ◌<◌, ◌≡◌, cond, List, [], ◌∷◌, ◌++◌, eqb, length}
use Rattle.runs.specs.declared.Answer.TheVariants.{WrongLength}
use Rattle.runs.specs.Answers.{number_of, place_of}
use Rattle.words.specs.Words.{answer_word}
use Rattle.workings.specs.declared.Worked.{Worked}

-- the numbers of a working, 25 of them
unfoldable pub numbers_of : Worked → List ℕ
numbers_of w =
    let g = w.writing in
    let p = g.position in
    w.number
    ∷ w.generator
    ∷ (w.bits
    ++ (w.scrambling
    ++ (w.sum ∷ w.coded ∷ g.step ∷ g.k ∷ p.block ∷ p.row ∷ p.partition ∷ p.column ∷ g.cell ∷ [])))

-- the place fits the word of an answer, and the bits are seven
abbrev pub SmallWorked : Worked → Type 0
SmallWorked w = (place_of w.answer < 2 ^ 32) × (length w.bits ≡ 7) × (length w.scrambling ≡ 7)

pub record WorkingLeft : Type 0 where
  pub word : ℕ
  pub out : List ℕ

abbrev pub working_left : ℕ → List ℕ → WorkingLeft
working_left word out = record { word = word; out = out }

-- refused as the working is, and then, under 3 at place 4, for a buffer of another length; then the buffer stays as it was
unfoldable pub working_left_by : Worked → List ℕ → WorkingLeft
working_left_by w out =
    cond (eqb (number_of w.answer) 0)
    (cond (eqb (length out) 25) (working_left 0 (numbers_of w)) (working_left (answer_word (WrongLength 4)) out))
    (working_left (answer_word w.answer) out)
