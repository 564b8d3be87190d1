-- The call that puts an answer sheet into a buffer that is lent.
use Rattle.std.specs.Prelude.{ℕ, ◌-◌, Bool, cond, List, ◌++◌, ltb, length, replicate}
use Rattle.runs.specs.declared.Answer.{Answer}
use Rattle.runs.specs.declared.Answer.TheVariants.{Success, WrongLength}
use Rattle.sheets.specs.Sheet.{sheet_of}
use Rattle.sheets.specs.declared.sheets.Written.{Written}

-- no sheet is longer
abbrev pub room : ℕ
room = 1200000

-- what a call leaves: its answer, how many bytes the text has, and the buffer
pub record Said : Type 0 where
  pub answer : Answer
  pub count : ℕ
  pub out : List ℕ

abbrev pub said : Written → List ℕ → Said
said r out = record { answer = r.answer; count = r.length; out = out }

-- the text, and zeros behind it. A buffer that is too short, the second that is lent, stays as it was
unfoldable pub sheet_call : (mode count : ℕ) (without3 without4 work : Bool) (input out : List ℕ) → Said
sheet_call mode count without3 without4 work input out =
    let text = sheet_of mode count without3 without4 work input in
    cond (ltb (length out) room)
    (record { answer = WrongLength 1; count = 0; out = out })
    (record { answer = Success; count = length text; out = text ++ replicate (length out - length text) 0 })
