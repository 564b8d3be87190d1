-- What the call of the C library leaves that puts an answer sheet: its word, and the buffer. Zeros follow the text, so that it ends where C's texts end.
use Rattle.std.specs.Prelude.{ℕ, Bool, not, List, eqb}
use Rattle.sheets.specs.Call.{Said}
use Rattle.words.specs.Words.{answer_word}

-- a number that is not 0 says yes
abbrev pub said : ℕ → Bool
said number = not (eqb number 0)

pub record SheetLeft : Type 0 where
  pub word : ℕ
  pub out : List ℕ

abbrev pub sheet_left : ℕ → List ℕ → SheetLeft
sheet_left word out = record { word = word; out = out }

abbrev pub sheet_left_by : Said → SheetLeft
sheet_left_by s = sheet_left (answer_word s.answer) s.out
