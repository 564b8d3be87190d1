-- `line_refused` meets its contract. Assumes nothing.
use mathlib.Core.Path.{ap, ◌∙◌}
use Rattle.sheetlines.specs.Entries.{entry_of}
use Rattle.sheettext.specs.Texts.{is_refused}
use Rattle.sheetlists.proofs.lists.line_refused.Goals as goal

pub returns : goal.returns
returns c =
    c.is_refused.ensures ∙ ap is_refused (c.entry_for.ensures ∙ ap (entry_of c.args.mode c.args.count) c.asked-question.ensures)
