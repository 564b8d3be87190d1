-- Document 01: what the cell list program prints, as ASCII bytes.
use Rattle.std.specs.Prelude.{ℕ, cond, ◌&&◌, List, ◌++◌, Result, Ok, Err}
use Rattle.runs.specs.declared.Answer.{Answer}
use Rattle.queries.specs.Finder.{found}
use Rattle.queries.specs.declared.finder.Found.{Found}
use Rattle.queries.specs.declared.finder.Found.TheVariants.{P1, Pids}
use Rattle.text.specs.Letters.{ascii}
use Rattle.text.specs.Lines.{after, before, lines, space}
use Rattle.text.specs.Numbers.{decimal, is_number, value}
use Rattle.text.specs.Refused.{refused}
use Rattle.linewise.specs.EachLine.{each_line}

abbrev pub named_p1 : List ℕ
named_p1 = ascii "P1"

abbrev pub named_pids : List ℕ
named_pids = ascii "PIDS"

-- row, column, channel, frame number and coded bit
unfoldable pub cell : (row column : ℕ) (channel : List ℕ) (frame bit : ℕ) → List ℕ
cell row column channel frame bit =
    decimal row ++ ascii " " ++ decimal column ++ ascii " " ++ channel ++ ascii " " ++ decimal frame ++ ascii " " ++ decimal bit ++ ascii "\n"

-- what is printed for each answer of the cell finder
abbrev pub told : (number row column : ℕ) → Result Found Answer → List ℕ
told number row column (Ok (P1 bit)) = cell row column named_p1 0 bit
told number row column (Ok (Pids frame bit)) = cell row column named_pids frame bit
told number row column (Err answer) = refused number

-- what is printed for a line: two numbers parted by the first space are a row and a column, any other line is refused
unfoldable pub printed : (number : ℕ) (line : List ℕ) → List ℕ
printed number line =
    let row = before space line in
    let column = after space line in
    cond (is_number row && is_number column) (told number (value row) (value column) (found (value row) (value column)))
    (refused number)

abbrev pub header : List ℕ
header = ascii "ROW COL CHANNEL FRAME BIT\n"

-- all that is printed for an input: the header, and the lines numbered from 1
unfoldable pub output : (input : List ℕ) → List ℕ
output input = header ++ each_line printed 1 (lines input)
