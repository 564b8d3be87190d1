-- `sender_lengths` meets its contract. Assumes nothing.
use mathlib.Core.Path.{ap, ap₂, ◌∙◌}
use Rattle.runs.specs.Lengths.{sender_len}
use Rattle.modes.specs.Sizes.{wanted}
use Rattle.modes.proofs.sender_lengths.Goals as goal

pub returns : goal.returns
returns c =
    c.lengths.ensures
    ∙ ap₂ (wanted _) (c.sender_len-memory3.ensures ∙ ap sender_len c.kind_of.ensures) (c.sender_len-memory4.ensures ∙ ap sender_len c.kind_of-2.ensures)
