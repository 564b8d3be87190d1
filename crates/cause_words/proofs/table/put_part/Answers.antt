-- `put_part` meets its contract: the text is the rows. Assumes nothing.
use Rattle.cause_words.specs.Table.{causes, sheets}
use Rattle.cause_words.specs.Rows.{joined, rows}
use Rattle.cause_words.proofs.table.put_part.Goals as goal

pub returns : goal.returns
unfolding joined rows causes sheets
returns c = c.put_cut.ensures
