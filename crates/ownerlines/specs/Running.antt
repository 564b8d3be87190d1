-- What the code knows of the bytes of a line so far. Only the code's contracts need it: what a line means is said in Printed.
use Rattle.std.specs.Prelude.{ℕ, List, take}
use Rattle.linewise.specs.Going.{Going}
use Rattle.ownerlines.specs.Printed.{output, printed}
use Rattle.ownerlines.specs.declared.Progress.{Progress}

-- the bytes of a line that are held
unfoldable pub held_of : List ℕ → List ℕ
held_of bytes = take 4096 bytes

-- After the bytes seen, with `text` printed, and `line` in the buffer of the open line
abbrev pub Reached : (mode : ℕ) (seen text line : List ℕ) → Progress → Type 0
Reached mode seen text line p = Going held_of (printed mode) (output mode) seen text (take p.held line) p.number
