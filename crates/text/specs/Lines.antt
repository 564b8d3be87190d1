-- The lines of a text, and the parts of a line: a newline (10) ends a line, a space (32) a word.
use Rattle.std.specs.Prelude.{ℕ, ◌-◌, cond, List, [], ◌∷◌, eqb, get_or, length, take}

abbrev pub newline : ℕ
newline = 10

abbrev pub space : ℕ
space = 32

-- the CR that some systems put before a newline
abbrev pub return : ℕ
return = 13

-- the bytes before the first separator: all, where there is none
unfoldable pub before : (separator : ℕ) → List ℕ → List ℕ
before separator [] = []
before separator (b ∷ rest) = cond (eqb b separator) [] (b ∷ before separator rest)

-- the bytes after the first separator: none, where there is none
unfoldable pub after : (separator : ℕ) → List ℕ → List ℕ
after separator [] = []
after separator (b ∷ rest) = cond (eqb b separator) rest (after separator rest)

-- b at the start of the first line
unfoldable pub joined : ℕ → List (List ℕ) → List (List ℕ)
joined b [] = (b ∷ []) ∷ []
joined b (line ∷ rest) = (b ∷ line) ∷ rest

-- A newline ends a line. What follows the last newline is a line only where it is not empty.
unfoldable pub lines : List ℕ → List (List ℕ)
lines [] = []
lines (b ∷ rest) = cond (eqb b newline) ([] ∷ lines rest) (joined b (lines rest))

-- a line without the CR that may end it
unfoldable pub plain_length : List ℕ → ℕ
plain_length line = cond (eqb (get_or line (length line - 1) 0) return) (length line - 1) (length line)

unfoldable pub plain : List ℕ → List ℕ
plain line = take (plain_length line) line
