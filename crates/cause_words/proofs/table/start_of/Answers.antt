-- `start_of` meets its contract: the table is the places of the rows. Assumes nothing.
use Rattle.cause_words.specs.Table.{causes, sheets}
use Rattle.cause_words.specs.Rows.{rows}
use Rattle.cause_words.proofs.Found.{starts, starts-are, starts_from}
use Rattle.cause_words.proofs.table.start_of.Goals as goal

pub returns : goal.returns
unfolding starts starts_from rows causes sheets
returns c = starts-are c.args.row c.requires
