use mathlib.Core.Path.{◌≡◌}
use native.Mathlib.Omega.{arith}
use Rattle.bits.specs.Bits.{bit_at}
use Rattle.bits.proofs.Packed.{bit_at_lt}
use Rattle.pm.proofs.RowLaws.{rows_none, rows_all, nibbles-lt}
use borrow.Author.Rules.{rules}
use Rattle.pm.proofs.scatter.scatter_p1.Goals as goal

pub loop-r-init : goal.loop-r-init
loop-r-init c = (search rules, search rules, search rules, rows_none _ _)

pub row_nibbles-requires : goal.row_nibbles-requires
row_nibbles-requires c =
    (c.requires.0, c.spreads-spreads.ensures, c.index_table-table.ensures, omega arith, c.loop-r.invariant.2)

pub write_row-requires : goal.write_row-requires
write_row-requires c =
    let coded = c.args.coded.now in
    let loop = c.loop-r in
    (loop.invariant.1, c.shown_bits-shown.ensures, omega arith, nibbles-lt (bit_at coded) (bit_at_lt coded) loop.r _ (search rules) c.row_nibbles.ensures)

pub loop-r-preserved : goal.loop-r-preserved
loop-r-preserved c =
    let coded = c.args.coded.now in
    (search rules, search rules, search rules, c.write_row.ensures (bit_at coded) c.row_nibbles.ensures c.loop-r.invariant.3)

pub returns : goal.returns
returns c =
    let inv = c.loop-r.invariant in
    let coded = c.args.coded.now in
    let all : c.loop-r.r ≡ 32 = omega arith in
    rows_all (bit_at coded) c.loop-r.pm (bit_at_lt coded) inv.1 (rw all at inv.3)
