-- House matter: what is said of a line without its bit's value.
use Rattle.std.specs.Prelude.{ℕ, cond, List, ◌++◌}
use Rattle.text.specs.Letters.{ascii}
use Rattle.text.specs.Refused.{refused}
use Rattle.sheetlines.specs.Entries.{entry_of}
use Rattle.sheetlines.specs.Questions.{question_of}
use Rattle.sheettext.specs.Texts.{is_refused, names}

-- what is said of a line where no transfer frames are at hand, but L1 frames without end (2^32, 200 years): the names alone, or that it is refused
unfoldable pub owner_line : (mode number : ℕ) (line : List ℕ) → List ℕ
owner_line mode number line =
    let q = question_of line in
    let e = entry_of mode 4294967296 q in
    cond (is_refused e) (refused number) (names q e ++ ascii "\n")
