-- What the code knows of the bytes of a line so far. Only the code's contracts need it: what a line means is said in Numbers, Lines and Printed.
use Rattle.std.specs.Prelude.{ℕ, min, cond, List, Option, Some, None, unwrap_or}
use Rattle.queries.specs.Finder.{found}
use Rattle.text.specs.Numbers.{digits_alone, value}
use Rattle.text.specs.Lines.{after, before, space}
use Rattle.linewise.specs.Going.{Going, begun, contains}
use Rattle.listing.specs.Printed.{told, output, printed}
use Rattle.listing.specs.declared.parsing.Line.{Line}
use Rattle.listing.specs.declared.blocks.Progress.{Progress}

-- The number of a part's bytes, if there are any. 1000 stands for any number from 1000 on, and for bytes that are not digits alone: no row and no column goes so far.
unfoldable pub part_of : List ℕ → Option ℕ
part_of bytes = cond (begun bytes) (Some (cond (digits_alone bytes) (min 1000 (value bytes)) 1000)) None

-- the part before the space, and the part behind it, if there was a space
unfoldable pub line_of : List ℕ → Line
line_of bytes = record { row = part_of (before space bytes); column = cond (contains space bytes) (Some (part_of (after space bytes))) None }

-- a part's number: 1000, which no row and no column reaches, where it has no bytes
abbrev pub known : Option ℕ → ℕ
known part = unwrap_or part 1000

-- what is printed for a line with this number
unfoldable pub shown : ℕ → Line → List ℕ
shown number line =
    let column = unwrap_or line.column None in
    told number (known line.row) (known column) (found (known line.row) (known column))

-- after the bytes seen, with `text` printed
abbrev pub Reached : (seen text : List ℕ) → Progress → Type 0
Reached seen text p = Going line_of printed output seen text p.line p.number
