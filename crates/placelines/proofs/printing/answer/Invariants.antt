-- `answer` meets its contract. The loop's invariant: the lines so far are answered, with at most 64 bytes put for each. Assumes nothing.
use mathlib.Core.Path.{◌≡◌}
use Prim.Native.Nat.{◌+◌, ◌*◌, ◌≤◌}
use lib.ListN.{length}
use Rattle.text.specs.Left.{lines_left}
use Rattle.text.specs.Lines.{lines}
use Rattle.text.proofs.Left.{Left}
use Rattle.placelines.specs.Printed.{output, printed_from}
use Rattle.placelines.proofs.printing.answer.Given as goal

abbrev pub invariant-loop-line : goal.invariant-loop-line
invariant-loop-line l =
    let left = lines_left l.line-iterator in
    (l.end + 64 * length left ≤ 64 * length (lines l.input)) × (l.number + length left ≡ 1 + length (lines l.input))
    × Left l.initial.out l.out 0 l.end (output l.input) (printed_from l.number left)
