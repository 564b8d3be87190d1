-- `put_fraction` meets its contract. Assumes nothing.
use mathlib.Core.Path.{sym}
use native.Mathlib.Omega.{arith}
use borrow.Author.Tests.{eq-eqb, ne_eqb}
use Rattle.text.proofs.Stored.{put-most, put-text, put_then}
use Rattle.vector_step.specs.Numbers.{fraction}
use Rattle.vector_step.proofs.numbers.put_fraction.Goals as goal

pub returns-then-n-eq0 : goal.returns-then-n-eq0
unfolding fraction
returns-then-n-eq0 c = put-text (sym (rw (eq-eqb _ _ c.if-n-eq0.true))) (put-most (omega arith) c.put.ensures)

pub returns : goal.returns
unfolding fraction
returns c =
    put-text (sym (rw (ne_eqb _ _ c.if-n-eq0.false))) (put-most (omega arith) (put_then c.put-m.ensures c.put_digits.ensures))
