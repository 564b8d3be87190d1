-- `put_matrix` meets its contract. Assumes nothing.
use mathlib.Core.Path.{sym}
use native.Mathlib.Omega.{arith}
use borrow.Author.Tests.{eq-eqb, le-ltb, lt-ltb, ne_eqb}
use Rattle.text.proofs.Stored.{put-most, put-text}
use Rattle.sheettext.specs.Texts.{matrix_name}
use Rattle.sheettext.proofs.lines.put_matrix.Goals as goal

pub returns-then-channel-lt3 : goal.returns-then-channel-lt3
unfolding matrix_name
returns-then-channel-lt3 c = put-most (omega arith) (put-text (sym (rw (lt-ltb _ _ c.if-channel-lt3.true))) c.put.ensures)

pub returns-then-channel-eq3 : goal.returns-then-channel-eq3
unfolding matrix_name
returns-then-channel-eq3 c = put-text (sym (rw (le-ltb _ _ c.if-channel-lt3.false, eq-eqb _ _ c.if-channel-eq3.true))) c.put-then-channel-eq3.ensures

pub returns : goal.returns
unfolding matrix_name
returns c = put-text (sym (rw (le-ltb _ _ c.if-channel-lt3.false, ne_eqb _ _ c.if-channel-eq3.false))) c.put-2.ensures
