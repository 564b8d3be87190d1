-- House matter: the line that is printed for a frame: its ten bytes in hexadecimal, the distance and the margin in decimal, as ASCII bytes.
use Rattle.std.specs.Prelude.{cond, List, [], ◌∷◌, ◌++◌, ℕ, ◌+◌, ◌/◌, ◌%◌, ltb}
use Rattle.text.specs.Numbers.{decimal}
use Rattle.text.specs.Letters.{ascii}

-- 0 to 9 and A to F
unfoldable pub digit : ℕ → ℕ
digit n = cond (ltb n 10) (48 + n) (55 + n)

unfoldable pub hexadecimal : List ℕ → List ℕ
hexadecimal [] = []
hexadecimal (b ∷ rest) = digit (b / 16) ∷ digit (b % 16) ∷ hexadecimal rest

unfoldable pub found : (frame : List ℕ) (distance margin : ℕ) → List ℕ
found frame distance margin = hexadecimal frame ++ ascii " " ++ decimal distance ++ ascii " " ++ decimal margin ++ ascii "\n"
