-- House matter (D145): why there is no sheet, in words: those of the row of causes.tsv whose name begins the line, or of an L1 frame's cause.
use Rattle.std.specs.Prelude.{ℕ, Bool, cond, List, [], ◌∷◌, length, take, Option, Some, None}
use Rattle.bits.specs.Tests.{same}
use Rattle.operands.specs.Operands.{operand_of}
use Rattle.text.specs.Letters.{ascii}
use Rattle.text.specs.Lines.{after, before, space}
use Rattle.cause_words.specs.Table.{names, sheets}
use Rattle.cause_words.specs.Words.{no_cause, words}

unfoldable pub begins : (start text : List ℕ) → Bool
begins start text = same (take (length start) text) start

-- the words of the first row whose name begins the text
unfoldable pub row_in : (names rows : List (List ℕ)) (text : List ℕ) → List ℕ
row_in [] rows text = no_cause
row_in (name ∷ names) [] text = no_cause
row_in (name ∷ names) (row ∷ rows) text = cond (begins name text) row (row_in names rows text)

-- NO SHEET FRAME T NUMBER N: the sixth word
unfoldable pub sixth : List ℕ → List ℕ
sixth text = before space (after space (after space (after space (after space (after space text)))))

abbrev pub words_for : Option ℕ → List ℕ
words_for (Some number) = words number
words_for None = no_cause

unfoldable pub why : (text : List ℕ) → List ℕ
why text = cond (begins (ascii "NO SHEET FRAME ") text) (words_for (operand_of (sixth text))) (row_in names sheets text)
