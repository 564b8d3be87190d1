-- House matter: the lines that the programs say, as ASCII bytes.
use Rattle.std.specs.Prelude.{ℕ, cond, List, [], ◌++◌, take}
use Rattle.text.specs.Letters.{ascii}
use Rattle.text.specs.Numbers.{decimal}
use Rattle.cause_words.specs.Words.{words}
use Rattle.cause_words.specs.NoSheet.{begins, why}

-- a number, and what stands behind it
abbrev pub followed : ℕ → List ℕ → List ℕ
followed n text = decimal n ++ text

-- a refused call: the answer's number and place, and the L1 frame, numbered from 0
unfoldable pub refusal : (number place frame : ℕ) → List ℕ
refusal number place frame =
    ascii "refused: number "
    ++ (followed number (ascii " ") ++ (ascii "place " ++ (followed place (ascii " ") ++ (ascii "frame " ++ followed frame (ascii "\n")))))

-- the same on standard error: the line, and the cause in words
unfoldable pub in_words : (number place frame : ℕ) → List ℕ
in_words number place frame = refusal number place frame ++ words number

-- an input that goes on where L1 frame `frame` would stand, behind the last
unfoldable pub goes_on : (frame : ℕ) → List ℕ
goes_on frame = ascii "refused: input goes on at frame " ++ followed frame (ascii "\n")

-- of the text that `sheet` prints: nothing of a sheet; of the line that says why there is none that line, which has at most 91 bytes, and the cause in words
unfoldable pub no_sheet : (text : List ℕ) → List ℕ
no_sheet text = cond (begins (ascii "NO SHEET ") text) (take 91 text ++ why text) []
