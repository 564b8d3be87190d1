-- `start_sender` meets its contract: a start with the sender's lengths. Assumes nothing.
use mathlib.Core.Path.{◌∙◌, ap}
use Rattle.runs.specs.Lengths.{sender_len}
use Rattle.calls.proofs.starting.start_sender.Goals as goal

pub returns : goal.returns
returns c =
    c.start_side.ensures sender_len
    (c.sender_len-want3.ensures ∙ ap sender_len c.kind_of.ensures)
    (c.sender_len-want4.ensures ∙ ap sender_len c.kind_of-2.ensures)
