-- `reader_lengths` meets its contract. Assumes nothing.
use mathlib.Core.Path.{ap, ap₂, ◌∙◌}
use Rattle.runs.specs.Lengths.{reader_len}
use Rattle.modes.specs.Sizes.{wanted}
use Rattle.modes.proofs.reader_lengths.Goals as goal

pub returns : goal.returns
returns c =
    c.lengths.ensures
    ∙ ap₂ (wanted _) (c.reader_len-memory3.ensures ∙ ap reader_len c.kind_of.ensures) (c.reader_len-memory4.ensures ∙ ap reader_len c.kind_of-2.ensures)
