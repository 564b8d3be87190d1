-- `control::column_of` meets its contract. The loop's invariant: the rows so far are in y. Assumes nothing.
use mathlib.Core.Path.{◌≡◌}
use Rattle.bits.specs.Bits.{number}
use Rattle.control.specs.Control.{encoded}
use Rattle.control.proofs.column_of.Given as goal

abbrev pub invariant-loop-row : goal.invariant-loop-row
invariant-loop-row l = l.y ≡ number l.row (encoded l.mode l.count l.reserved l.column)
