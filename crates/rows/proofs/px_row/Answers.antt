-- `px_row` meets its contract: the case that the tests chose. Assumes nothing.
use Prim.Native.Nat.{◌*◌}
use borrow.Author.Tests.{eq-eqb, ne_eqb, lt-ltb, le-ltb}
use Rattle.rows.specs.Rows.{px_row}
use Rattle.rows.proofs.Parts.{part_of}
use Rattle.rows.proofs.px_row.Goals as goal

pub returns-then-px1-ne9216 : goal.returns-then-px1-ne9216
unfolding px_row
returns-then-px1-ne9216 c = rw (ne_eqb _ _ c.if-px1-ne9216.true)

pub returns-then-px2-ne9216 : goal.returns-then-px2-ne9216
unfolding px_row
returns-then-px2-ne9216 c = rw (eq-eqb _ _ c.if-px1-ne9216.false, ne_eqb _ _ c.if-px2-ne9216.true)

pub returns-then-row-ge512 : goal.returns-then-row-ge512
unfolding px_row
returns-then-row-ge512 c = rw (eq-eqb _ _ c.if-px1-ne9216.false, eq-eqb _ _ c.if-px2-ne9216.false, le-ltb _ _ c.if-row-ge512.true)

pub returns-then-channel-eq3 : goal.returns-then-channel-eq3
unfolding px_row
returns-then-channel-eq3 c =
    rw (eq-eqb _ _ c.if-px1-ne9216.false, eq-eqb _ _ c.if-px2-ne9216.false, lt-ltb _ _ c.if-row-ge512.false, eq-eqb _ _ c.if-channel-eq3.true)
    (part_of (c.args.row * 18) 18 c.args.px1.now)

pub returns-then-channel-eq4 : goal.returns-then-channel-eq4
unfolding px_row
returns-then-channel-eq4 c =
    rw (
      eq-eqb _ _ c.if-px1-ne9216.false,
      eq-eqb _ _ c.if-px2-ne9216.false,
      lt-ltb _ _ c.if-row-ge512.false,
      ne_eqb _ _ c.if-channel-eq3.false,
      eq-eqb _ _ c.if-channel-eq4.true,
    )
    (part_of (c.args.row * 18) 18 c.args.px2.now)

pub returns : goal.returns
unfolding px_row
returns c =
    rw (
      eq-eqb _ _ c.if-px1-ne9216.false,
      eq-eqb _ _ c.if-px2-ne9216.false,
      lt-ltb _ _ c.if-row-ge512.false,
      ne_eqb _ _ c.if-channel-eq3.false,
      ne_eqb _ _ c.if-channel-eq4.false,
    )
