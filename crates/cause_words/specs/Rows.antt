-- For the code alone: the words as rows of one text.
use Rattle.std.specs.Prelude.{ℕ, zero, suc, ◌+◌, List, [], ◌∷◌, ◌++◌, length}
use Rattle.cause_words.specs.Table.{causes, sheets}
use Rattle.cause_words.specs.Words.{no_cause}

-- the words for no cause, of each cause, and why there is no sheet
unfoldable pub rows : List (List ℕ)
rows = no_cause ∷ (causes ++ sheets)

-- the text that the rows are
unfoldable pub joined : List (List ℕ) → List ℕ
joined [] = []
joined (row ∷ rest) = row ++ joined rest

-- where row n begins in it
unfoldable pub start_of : List (List ℕ) → ℕ → ℕ
start_of [] n = 0
start_of (row ∷ rest) zero = 0
start_of (row ∷ rest) (suc n) = length row + start_of rest n
