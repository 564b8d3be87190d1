-- What the program `allocate` prints, as ASCII bytes: a line for each line of its input.
use Rattle.std.specs.Prelude.{ℕ, zero, suc, ◌+◌, cond, List, [], ◌∷◌, ◌++◌, ltb, get_or, replicate}
use Rattle.runs.specs.Answers.{number_of, on_success, place_of}
use Rattle.allocation.specs.Allocation.{Outcome, shared}
use Rattle.text.specs.Lines.{lines, newline, space}
use Rattle.text.specs.Numbers.{decimal}
use Rattle.text.specs.Letters.{ascii}
use Rattle.placelines.specs.Read.{eight_at, is_read}

-- the byte behind place k of sixteen: a space, and behind the last a newline
abbrev pub behind : ℕ → ℕ
behind k = cond (ltb k 15) space newline

-- the first k places of a list
unfoldable pub spelled_places : ℕ → List ℕ → List ℕ
spelled_places zero places = []
spelled_places (suc k) places = spelled_places k places ++ (decimal (get_or places k 0) ++ (behind k ∷ []))

-- the number and the place
unfoldable pub refused : (number place : ℕ) → List ℕ
refused number place = ascii "REFUSED " ++ ((decimal number ++ ascii " ") ++ (decimal place ++ ascii "\n"))

-- the line's number
unfoldable pub bad_line : (number : ℕ) → List ℕ
bad_line number = ascii "BAD LINE " ++ (decimal number ++ ascii "\n")

-- the sixteen places, or the refusal
unfoldable pub told : Outcome → List ℕ
told o = on_success o.answer (spelled_places 16 o.places) (refused (number_of o.answer) (place_of o.answer))

-- what is printed for a line: the places as its numbers share them
unfoldable pub printed : (number : ℕ) (line : List ℕ) → List ℕ
printed number line =
    cond (is_read 16 line) (told (shared (eight_at 0 line) (eight_at 8 line) (replicate 16 0))) (bad_line number)

-- for lines, of which the first has this number
unfoldable pub printed_from : (number : ℕ) (input : List (List ℕ)) → List ℕ
printed_from number [] = []
printed_from number (line ∷ rest) = printed number line ++ printed_from (number + 1) rest

-- for an input, whose lines are numbered from 1
unfoldable pub output : (input : List ℕ) → List ℕ
output input = printed_from 1 (lines input)
