-- `working_of` meets its contract. Assumes nothing.
use mathlib.Core.Path.{◌∙◌}
use Rattle.sheetworks.proofs.Parts.{working-is}
use Rattle.sheetworks.proofs.working_of.Goals as goal

pub returns : goal.returns
returns c =
    c.working.ensures
    ∙ working-is _ _ _ _ _ _ _ _ c.state_before-state.ensures c.bytes_at-frame.ensures c.channel_in-handed.ensures
