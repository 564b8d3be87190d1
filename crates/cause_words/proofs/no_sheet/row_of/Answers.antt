-- `row_of` meets its contract: the names are tried in the order of the table. Assumes nothing.
use mathlib.Core.Path.{◌∙◌, sym}
use native.Mathlib.Omega.{arith}
use Rattle.cause_words.specs.Table.{causes, names, sheets}
use Rattle.cause_words.specs.Rows.{rows}
use Rattle.cause_words.specs.NoSheet.{row_in}
use Rattle.cause_words.proofs.no_sheet.row_of.Goals as goal

pub returns-then-begins : goal.returns-then-begins
unfolding row_in names sheets causes rows
returns-then-begins c = (omega arith, rw (sym c.begins.ensures ∙ c.if-begins.true))

pub returns-then-begins-2 : goal.returns-then-begins-2
unfolding row_in names sheets causes rows
returns-then-begins-2 c = (
  omega arith,
  rw (
    sym c.begins.ensures ∙ c.if-begins.false,
    sym c.begins-2.ensures ∙ c.if-begins-2.true,
  ),
)

pub returns-then-begins-3 : goal.returns-then-begins-3
unfolding row_in names sheets causes rows
returns-then-begins-3 c = (
  omega arith,
  rw (
    sym c.begins.ensures ∙ c.if-begins.false,
    sym c.begins-2.ensures ∙ c.if-begins-2.false,
    sym c.begins-3.ensures ∙ c.if-begins-3.true,
  ),
)

pub returns-then-begins-4 : goal.returns-then-begins-4
unfolding row_in names sheets causes rows
returns-then-begins-4 c = (
  omega arith,
  rw (
    sym c.begins.ensures ∙ c.if-begins.false,
    sym c.begins-2.ensures ∙ c.if-begins-2.false,
    sym c.begins-3.ensures ∙ c.if-begins-3.false,
    sym c.begins-4.ensures ∙ c.if-begins-4.true,
  ),
)

pub returns-then-begins-5 : goal.returns-then-begins-5
unfolding row_in names sheets causes rows
returns-then-begins-5 c = (
  omega arith,
  rw (
    sym c.begins.ensures ∙ c.if-begins.false,
    sym c.begins-2.ensures ∙ c.if-begins-2.false,
    sym c.begins-3.ensures ∙ c.if-begins-3.false,
    sym c.begins-4.ensures ∙ c.if-begins-4.false,
    sym c.begins-5.ensures ∙ c.if-begins-5.true,
  ),
)

pub returns-then-begins-6 : goal.returns-then-begins-6
unfolding row_in names sheets causes rows
returns-then-begins-6 c = (
  omega arith,
  rw (
    sym c.begins.ensures ∙ c.if-begins.false,
    sym c.begins-2.ensures ∙ c.if-begins-2.false,
    sym c.begins-3.ensures ∙ c.if-begins-3.false,
    sym c.begins-4.ensures ∙ c.if-begins-4.false,
    sym c.begins-5.ensures ∙ c.if-begins-5.false,
    sym c.begins-6.ensures ∙ c.if-begins-6.true,
  ),
)

pub returns-then-begins-7 : goal.returns-then-begins-7
unfolding row_in names sheets causes rows
returns-then-begins-7 c = (
  omega arith,
  rw (
    sym c.begins.ensures ∙ c.if-begins.false,
    sym c.begins-2.ensures ∙ c.if-begins-2.false,
    sym c.begins-3.ensures ∙ c.if-begins-3.false,
    sym c.begins-4.ensures ∙ c.if-begins-4.false,
    sym c.begins-5.ensures ∙ c.if-begins-5.false,
    sym c.begins-6.ensures ∙ c.if-begins-6.false,
    sym c.begins-7.ensures ∙ c.if-begins-7.true,
  ),
)

pub returns : goal.returns
unfolding row_in names sheets causes rows
returns c = (
  omega arith,
  rw (
    sym c.begins.ensures ∙ c.if-begins.false,
    sym c.begins-2.ensures ∙ c.if-begins-2.false,
    sym c.begins-3.ensures ∙ c.if-begins-3.false,
    sym c.begins-4.ensures ∙ c.if-begins-4.false,
    sym c.begins-5.ensures ∙ c.if-begins-5.false,
    sym c.begins-6.ensures ∙ c.if-begins-6.false,
    sym c.begins-7.ensures ∙ c.if-begins-7.false,
  ),
)
