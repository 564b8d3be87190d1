-- What is printed for lines, one after the other, where `printed` says what is printed for a line with its number.
use Rattle.std.specs.Prelude.{ℕ, ◌+◌, List, [], ◌∷◌, ◌++◌}

abbrev pub Printing : Type 0
Printing = (number : ℕ) (line : List ℕ) → List ℕ

-- the first of these lines has this number
unfoldable pub each_line : Printing → (number : ℕ) → List (List ℕ) → List ℕ
each_line printed number [] = []
each_line printed number (line ∷ rest) = printed number line ++ each_line printed (number + 1) rest
