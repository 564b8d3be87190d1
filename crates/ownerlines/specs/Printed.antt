-- House matter: what the program `owners` prints, as ASCII bytes: a line for each line of its input.
use Rattle.std.specs.Prelude.{ℕ, cond, List, ltb, length}
use Rattle.text.specs.Lines.{lines}
use Rattle.text.specs.Refused.{refused}
use Rattle.linewise.specs.EachLine.{each_line}
use Rattle.sheettext.specs.Owners.{owner_line}

-- what is printed for a line: the answer of a sheet without the bit's value. A line of more than 4,095 bytes, which no list of a sheet has, is refused unread
unfoldable pub printed : (mode number : ℕ) (line : List ℕ) → List ℕ
printed mode number line = cond (ltb (length line) 4096) (owner_line mode number line) (refused number)

-- all that is printed for an input, whose lines are numbered from 1
unfoldable pub output : (mode : ℕ) (input : List ℕ) → List ℕ
output mode input = each_line (printed mode) 1 (lines input)
