-- The lines that are left of a text that is walked line by line.
use Rattle.std.specs.Prelude.{ℕ, List}
use Rattle.text.specs.Lines.{lines}
use Rattle.text.specs.declared.walking.EachLine.{EachLine}

abbrev pub lines_left : EachLine → List (List ℕ)
lines_left it = lines it.rest.now
