-- `put_why` meets its contract: the words of a number, or a row. Assumes nothing.
use mathlib.Core.Path.{◌∙◌, sym}
use Rattle.text.proofs.Stored.{put-text}
use Rattle.cause_words.proofs.Named.{by_number, by_row}
use Rattle.cause_words.proofs.no_sheet.put_why.Goals as goal

pub returns-then-begins : goal.returns-then-begins
returns-then-begins c =
    let text = c.args.text.now in
    let is-frame = sym c.begins.ensures ∙ c.if-begins.true in
    let given = by_number text is-frame c.sixth_word.ensures c.decimal.ensures in
    put-text given c.put_written.ensures

pub returns : goal.returns
returns c =
    let text = c.args.text.now in
    let given = by_row text (sym c.begins.ensures ∙ c.if-begins.false) c.row_of.ensures.1 in
    put-text given c.put_row.ensures
