-- `eight_at` meets its contract. The loop's invariant: the first d numbers are in place. Assumes nothing.
use Rattle.std.specs.Prelude.{◌+◌, unwrap_or}
use Rattle.bits.proofs.Listed.{Filled}
use Rattle.placelines.specs.Read.{number_at}
use Rattle.placelines.proofs.fields.eight_at.Given as goal

abbrev pub invariant-loop-d : goal.invariant-loop-d
invariant-loop-d l = Filled 8 (λ d. unwrap_or (number_at (l.k + d) l.line) 256) l.numbers l.d
