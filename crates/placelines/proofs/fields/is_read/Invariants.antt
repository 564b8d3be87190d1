-- `is_read` meets its contract. The loop's invariant: the first k words are numbers of a byte. Assumes nothing.
use mathlib.Core.Path.{◌≡◌}
use mathlib.Core.Bool.{true}
use Rattle.placelines.specs.Read.{is_read}
use Rattle.placelines.proofs.fields.is_read.Given as goal

abbrev pub invariant-loop-k : goal.invariant-loop-k
invariant-loop-k l = is_read l.k l.line ≡ true
