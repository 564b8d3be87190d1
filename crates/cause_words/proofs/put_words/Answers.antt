-- `put_words` meets its contract: the row behind the number of a cause, or the first. Assumes nothing.
use Rattle.text.proofs.Stored.{put-text}
use Rattle.cause_words.proofs.Found.{cause-at, no_row}
use Rattle.cause_words.proofs.put_words.Goals as goal

pub returns-then-number : goal.returns-then-number
returns-then-number c = put-text (cause-at c.args.number c.if-number.true) c.put_row.ensures

pub returns : goal.returns
returns c = put-text (no_row c.args.number c.if-number.false) c.put_row-2.ensures
