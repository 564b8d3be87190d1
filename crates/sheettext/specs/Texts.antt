-- House matter: the lines of an answer sheet, as ASCII bytes.
use Rattle.std.specs.Prelude.{ℕ, Bool, true, false, cond, List, [], ◌++◌, eqb, ltb, Option, Some, None}
use Rattle.bits.specs.Bits.{bit_at}
use Rattle.runs.specs.Lent.{Matrices}
use Rattle.text.specs.Letters.{ascii}
use Rattle.text.specs.Numbers.{decimal}
use Rattle.sheetlines.specs.declared.questions.Question.{Question}
use Rattle.sheetlines.specs.declared.questions.Question.TheVariants.{Bit, Pm, Px}
use Rattle.sheetlines.specs.declared.entries.Cell.{Cell}
use Rattle.sheetlines.specs.declared.entries.CodedBit.{CodedBit}
use Rattle.sheetlines.specs.declared.entries.Entry.{Entry}
use Rattle.sheetlines.specs.declared.entries.Entry.TheVariants.{Stands, Fill}

-- a number and a space; a number that ends its line
abbrev pub word : ℕ → List ℕ
word n = decimal n ++ ascii " "

abbrev pub last : ℕ → List ℕ
last n = decimal n ++ ascii "\n"

-- the channels without data
unfoldable pub without : (without3 without4 : Bool) → List ℕ
without without3 without4 = cond without3 (cond without4 (ascii " without P3 P4") (ascii " without P3")) (cond without4 (ascii " without P4") [])

-- whether the answers have their workings
unfoldable pub worded : (work : Bool) → List ℕ
worded work = cond work (ascii " work\n") (ascii "\n")

-- the first line: the mode, how many L1 frames the sheet is of, the channels without data, and whether there are workings
unfoldable pub head : (mode count : ℕ) (without3 without4 work : Bool) → List ℕ
head mode count without3 without4 work = ascii "MP" ++ (word mode ++ (decimal count ++ (without without3 without4 ++ worded work)))

-- the last line: how many answers the sheet has
unfoldable pub ending : ℕ → List ℕ
ending n = ascii "END " ++ last n

-- ---- the names of an answer

-- the matrix in which a channel is sent, and the channel: 1 is P1, 2 PIDS, 3 P3, 4 P4
unfoldable pub matrix_name : (channel : ℕ) → List ℕ
matrix_name channel = cond (ltb channel 3) (ascii "PM ") (cond (eqb channel 3) (ascii "PX1 ") (ascii "PX2 "))

unfoldable pub channel_name : (channel : ℕ) → List ℕ
channel_name channel = cond (eqb channel 1) (ascii "P1 ") (cond (eqb channel 2) (ascii "PIDS ") (cond (eqb channel 3) (ascii "P3 ") (ascii "P4 ")))

-- what a line asks for: FRAME PM ROW COL, FRAME PX1 PAIR ROW COL, or FRAME CHANNEL TFRAME BIT
unfoldable pub asked : Option Question → List ℕ
asked (Some (Pm frame row column)) = word frame ++ (ascii "PM " ++ (word row ++ word column))
asked (Some (Px frame channel pair row column)) = word frame ++ (matrix_name channel ++ (word pair ++ (word row ++ word column)))
asked (Some (Bit frame channel tframe bit)) = word frame ++ (channel_name channel ++ (word tframe ++ word bit))
asked None = []

-- a number that P3 and P4 have, and P1 and PIDS have not
unfoldable pub of_px : (channel n : ℕ) → List ℕ
of_px channel n = cond (ltb channel 3) [] (word n)

-- whose bit stands in a cell: P1 TFRAME BIT, PIDS TFRAME BIT, or P3 FROM TFRAME BIT
unfoldable pub owner : CodedBit → List ℕ
owner coded = channel_name coded.channel ++ (of_px coded.channel coded.from ++ (word coded.frame ++ decimal coded.bit))

-- in which cell a bit of the channel stands: PM SENT ROW COL, or PX1 SENT PAIR ROW COL
unfoldable pub place : (channel : ℕ) → Cell → List ℕ
place channel cell =
    matrix_name channel ++ (word cell.sent ++ (of_px channel cell.pair ++ (word cell.row ++ decimal cell.column)))

-- to a bit the answer is the cell, to a cell the bit
unfoldable pub found : Option Question → CodedBit → Cell → List ℕ
found (Some (Pm frame row column)) coded cell = owner coded
found (Some (Px frame channel pair row column)) coded cell = owner coded
found (Some (Bit frame channel tframe bit)) coded cell = place coded.channel cell
found None coded cell = []

-- the names of an answer: what is asked and what is found, or FILL. Of what is refused nothing is said here
unfoldable pub names : Option Question → Option Entry → List ℕ
names q (Some (Stands coded cell)) = asked q ++ found q coded cell
names q (Some (Fill sent)) = asked q ++ ascii "FILL"
names q None = []

-- ---- what stands behind them

-- the value of a bit that is sent, or LATER
unfoldable pub bit_text : (sent : Bool) (value : ℕ) → List ℕ
bit_text sent value = cond sent (ascii " " ++ last value) (ascii " LATER\n")

-- in a run of `count` L1 frames; behind FILL nothing
unfoldable pub value_text : (count : ℕ) → Option Entry → (value : ℕ) → List ℕ
value_text count (Some (Stands coded cell)) value = bit_text (ltb cell.sent count) value
value_text count (Some (Fill sent)) value = ascii "\n"
value_text count None value = []

-- the bit that stands in the cell, in the matrices of an L1 frame: P1 and PIDS are in PM, P3 in PX1 and P4 in PX2
unfoldable pub value_in : Matrices → Option Entry → ℕ
value_in x (Some (Stands coded cell)) =
    cond (ltb coded.channel 3) (bit_at x.pm cell.number)
    (cond (eqb coded.channel 3) (bit_at x.px1 cell.number) (bit_at x.px2 cell.number))
value_in x (Some (Fill sent)) = 0
value_in x None = 0

-- whether nothing can be answered
unfoldable pub is_refused : Option Entry → Bool
is_refused (Some entry) = false
is_refused None = true
