-- `put_subcarrier` meets its contract. Assumes nothing.
use mathlib.Core.Path.{sym}
use native.Mathlib.Omega.{arith}
use borrow.Author.Tests.{le-ltb, lt-ltb}
use Rattle.text.proofs.Stored.{put-most, put-text, put_then}
use Rattle.vector_step.specs.Printed.{subcarrier}
use Rattle.vector_step.proofs.lines.put_subcarrier.Goals as goal

pub returns-then-k-lt546 : goal.returns-then-k-lt546
unfolding subcarrier
returns-then-k-lt546 c = put-text (sym (rw (lt-ltb _ _ c.if-k-lt546.true))) (put-most (omega arith) (put_then c.put-m.ensures c.field.ensures))

pub returns : goal.returns
unfolding subcarrier
returns c = put-text (sym (rw (le-ltb _ _ c.if-k-lt546.false))) (put-most (omega arith) c.field-2.ensures)
