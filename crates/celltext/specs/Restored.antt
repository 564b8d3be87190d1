-- House matter: what the program `restore` prints for a line, as ASCII bytes. `RestoredLine` holds of one text only: the law `restored-line-once`.
use Rattle.std.specs.Prelude.{◌≡◌, true, false, cond, List, ◌++◌, ℕ, eqb, replicate}
use Rattle.runs.specs.declared.Answer.{Answer}
use Rattle.runs.specs.declared.Answer.TheVariants.{NoFrameFits, Success}
use Rattle.runs.specs.Answers.{number_of}
use Rattle.restoring.specs.Restored.{Restored}
use Rattle.text.specs.Letters.{ascii}
use Rattle.text.specs.Refused.{refused}
use Rattle.celltext.specs.Found.{hexadecimal}
use Rattle.celltext.specs.Lines.{is_frame, CellsOf}

abbrev pub no_frame : List ℕ
no_frame = ascii "NO FRAME FITS\n"

abbrev pub several : List ℕ
several = ascii "SEVERAL FRAMES FIT\n"

-- for the number of an answer: the frame's ten bytes in hexadecimal, or why there is none
unfoldable pub told : (number : ℕ) (frame : List ℕ) → List ℕ
told number frame =
    cond (eqb number (number_of Success)) (hexadecimal frame ++ ascii "\n") (cond (eqb number (number_of NoFrameFits)) no_frame several)

-- what fits the line's cells, in a buffer that was empty before
pub record Fitted (line text : List ℕ) : Type 0 where
  pub cells : List ℕ
  pub frame : List ℕ
  pub answer : Answer
  pub read : CellsOf line cells
  pub restored : Restored cells (replicate 10 0) frame answer
  pub printed : text ≡ told (number_of answer) frame

-- a line that is no frame's is refused with its number
pub record RestoredLine (number : ℕ) (line text : List ℕ) : Type 0 where
  pub fitted : is_frame line ≡ true → Fitted line text
  pub unfitted : is_frame line ≡ false → text ≡ refused number
