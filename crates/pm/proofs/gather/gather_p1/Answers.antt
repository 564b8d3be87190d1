use native.Mathlib.Omega.{arith}
use Rattle.bits.specs.Bits.{bit_at}
use Rattle.bits.proofs.Packed.{bit_at_lt}
use Rattle.pm.proofs.BackLaws.{nibbles-in-lt, columns-none, columns-at, columns-all}
use borrow.Author.Rules.{rules}
use Rattle.pm.proofs.gather.gather_p1.Goals as goal

pub loop-r-init : goal.loop-r-init
loop-r-init c = (search rules, search rules, search rules, columns-at _ (columns-none _ _) (omega arith))

pub read_row-requires : goal.read_row-requires
read_row-requires c =
    let loop = c.loop-r in
    (c.requires.0, c.first_cells-cells.ensures, omega arith, loop.invariant.2)

pub put_columns-requires : goal.put_columns-requires
put_columns-requires c =
    let pm = c.args.pm.now in
    let loop = c.loop-r in
    let made = c.read_row.ensures in (
      c.spreads-spreads.ensures,
      c.index_table-table.ensures,
      nibbles-in-lt (bit_at pm) (bit_at_lt pm) loop.r _ made.0 made.1,
      loop.invariant.1,
      omega arith,
    )

pub loop-r-preserved : goal.loop-r-preserved
loop-r-preserved c =
    let pm = c.args.pm.now in
    let loop = c.loop-r in
    let made = c.read_row.ensures in (
      search rules,
      search rules,
      made.0,
      c.put_columns.ensures (bit_at pm) (bit_at_lt pm) made.1 loop.invariant.3,
    )

pub returns : goal.returns
returns c =
    let inv = c.loop-r.invariant in
    columns-all (bit_at c.args.pm.now) c.loop-r.coded inv.1 (columns-at _ inv.3 (omega arith))
