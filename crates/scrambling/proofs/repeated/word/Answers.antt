-- `word` meets its contract: `table_is`. Assumes nothing.
use Rattle.scrambling.proofs.Period.{table, table_is}
use Rattle.scrambling.proofs.repeated.word.Goals as goal

pub returns : goal.returns
unfolding table
returns c = λ k h. table_is c.args.w k c.requires h
