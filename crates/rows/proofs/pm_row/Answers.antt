-- `pm_row` meets its contract: the case that the tests chose. Assumes nothing.
use Prim.Native.Nat.{◌*◌}
use borrow.Author.Tests.{eq-eqb, ne_eqb, lt-ltb, le-ltb}
use Rattle.runs.specs.Lengths.{pm_len}
use Rattle.rows.specs.Rows.{pm_row}
use Rattle.rows.proofs.Parts.{part_of}
use Rattle.rows.proofs.pm_row.Goals as goal

pub returns-then-pm-ne46080 : goal.returns-then-pm-ne46080
unfolding pm_row pm_len
returns-then-pm-ne46080 c = rw (ne_eqb _ _ c.if-pm-ne46080.true)

pub returns-then-row-ge512 : goal.returns-then-row-ge512
unfolding pm_row pm_len
returns-then-row-ge512 c = rw (eq-eqb _ _ c.if-pm-ne46080.false, le-ltb _ _ c.if-row-ge512.true)

pub returns : goal.returns
unfolding pm_row pm_len
returns c =
    let a = c.args in
    rw (eq-eqb _ _ c.if-pm-ne46080.false, lt-ltb _ _ c.if-row-ge512.false) (part_of (a.row * 90) 90 a.pm.now)
