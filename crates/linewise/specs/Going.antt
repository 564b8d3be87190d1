-- What code that takes an input byte by byte knows on the way. Only the code's contracts need it.
use Rattle.std.specs.Prelude.{ℕ, ◌≡◌, Bool, true, false, ◌||◌, List, [], ◌∷◌, ◌++◌, eqb}
use Rattle.text.specs.Lines.{lines}
use Rattle.linewise.specs.EachLine.{Printing, each_line}

-- there are bytes
unfoldable pub begun : List ℕ → Bool
begun [] = false
begun (b ∷ rest) = true

-- x is one of the bytes
unfoldable pub contains : ℕ → List ℕ → Bool
contains x [] = false
contains x (b ∷ rest) = eqb b x || contains x rest

-- After the bytes seen, with `text` printed: what is left to print are the lines of the rest, of which the first has this number and begins with the bytes that `line` is the
-- state of. `output` is what is printed for a whole input, `line_of` what the code keeps of the bytes of a line.
pub record Going {L : Type 0} (line_of : List ℕ → L) (printed : Printing) (output : List ℕ → List ℕ) (seen text : List ℕ) (line : L) (number : ℕ) : Type 0 where
  pub begins : List ℕ
  pub plain : contains 10 begins ≡ false
  pub reads : line ≡ line_of begins
  pub left : (rest : List ℕ) → output (seen ++ rest) ≡ text ++ each_line printed number (lines (begins ++ rest))
