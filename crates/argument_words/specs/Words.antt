-- House matter (D146): the words that a program was started with, behind its own name, as one text: a zero byte ends each, and no word holds one.
use Rattle.std.specs.Prelude.{ℕ, ◌-◌, Bool, cond, List, [], ◌∷◌, ◌++◌, drop, length, take}
use Rattle.bits.specs.Tests.{same}
use Rattle.text.specs.Lines.{after, before}

-- words as they stand in the text
unfoldable pub ended : List (List ℕ) → List ℕ
ended [] = []
ended (word ∷ words) = word ++ (0 ∷ ended words)

-- the first word, and the text of the others
abbrev pub first : List ℕ → List ℕ
first text = before 0 text

abbrev pub others : List ℕ → List ℕ
others text = after 0 text

-- whether a text ends with another, and the text without it
unfoldable pub ends_with : (last text : List ℕ) → Bool
ends_with last text = same (drop (length text - length last) text) last

unfoldable pub without : (last text : List ℕ) → List ℕ
without last text = cond (ends_with last text) (take (length text - length last) text) text
