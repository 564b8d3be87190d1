-- `put_written` meets its contract. Assumes nothing.
use mathlib.Core.Path.{ap, sym}
use Rattle.text.proofs.Stored.{put-text}
use Rattle.cause_words.specs.Rows.{rows}
use Rattle.cause_words.specs.NoSheet.{words_for}
use Rattle.cause_words.proofs.no_sheet.put_written.Goals as goal

pub returns-in-Some : goal.returns-in-Some
returns-in-Some c = put-text (sym (ap words_for c.in-Some.is)) c.put_words.ensures

pub returns-in-None : goal.returns-in-None
unfolding rows
returns-in-None c = put-text (cc) c.put_row.ensures
