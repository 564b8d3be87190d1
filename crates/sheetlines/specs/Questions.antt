-- House matter: what a line of the list asks for: a cell of one L1 frame, or a coded bit of a transfer frame that was handed over with it, numbered from 0:
--     FRAME PM ROW COL
--     FRAME PX1 PAIR ROW COL        (PX2 likewise)
--     FRAME P1 TFRAME BIT           (PIDS, P3, P4 likewise)
-- One space parts two words. The last word is all that is left, so a space too many stands in it, and it is no number.
use Rattle.std.specs.Prelude.{ℕ, cond, List, eqb, ltb, Option, Some, None}
use Rattle.bits.specs.Tests.{same}
use Rattle.operands.specs.Operands.{operand_of}
use Rattle.text.specs.Letters.{ascii}
use Rattle.text.specs.Lines.{after, before, plain, space}
use Rattle.sheetlines.specs.declared.questions.Question.{Question}
use Rattle.sheetlines.specs.declared.questions.Question.TheVariants.{Bit, Pm, Px}

-- the first word, and what follows the space after it
abbrev pub word : List ℕ → List ℕ
word = before space

abbrev pub rest : List ℕ → List ℕ
rest = after space

-- what is asked with a number; a word that is no number makes the line wrong
abbrev pub with : Option ℕ → (ℕ → Option Question) → Option Question
with (Some n) asked = asked n
with None asked = None

-- the name's number: 0 for PM, 1 to 4 for the channels P1, PIDS, P3 and P4; 5: it is none of these
unfoldable pub named : List ℕ → ℕ
named name =
    cond (same name (ascii "PM")) 0
    (cond (same name (ascii "P1")) 1
    (cond (same name (ascii "PIDS")) 2
    (cond (same name (ascii "P3")) 3
    (cond (same name (ascii "P4")) 4
    5))))

-- what two numbers ask for behind it: ROW COL, or TFRAME BIT
unfoldable pub two : (name frame first second : ℕ) → Option Question
two name frame first second = cond (eqb name 0) (Some (Pm frame first second)) (cond (ltb name 5) (Some (Bit frame name first second)) None)

unfoldable pub two_question : (name : ℕ) (frame place : List ℕ) → Option Question
two_question name frame place =
    with (operand_of frame) (λ f.
    with (operand_of (word place)) (λ first.
    with (operand_of (rest place)) (λ second.
    two name f first second)))

-- PAIR ROW COL
unfoldable pub px_question : (channel : ℕ) (frame place : List ℕ) → Option Question
px_question channel frame place =
    with (operand_of frame) (λ f.
    with (operand_of (word place)) (λ pair.
    with (operand_of (word (rest place))) (λ row.
    with (operand_of (rest (rest place))) (λ column.
    Some (Px f channel pair row column)))))

abbrev pub named_px1 : List ℕ
named_px1 = ascii "PX1"

abbrev pub named_px2 : List ℕ
named_px2 = ascii "PX2"

-- PX1 brings channel P3, PX2 channel P4
unfoldable pub asking : (frame name place : List ℕ) → Option Question
asking frame name place =
    cond (same name named_px1) (px_question 3 frame place)
    (cond (same name named_px2) (px_question 4 frame place)
    (two_question (named name) frame place))

unfoldable pub plain_question : (line : List ℕ) → Option Question
plain_question line = asking (word line) (word (rest line)) (rest (rest line))

-- a CR before the newline is not part of the line
unfoldable pub question_of : (line : List ℕ) → Option Question
question_of line = plain_question (plain line)
