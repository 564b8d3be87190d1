-- `start_reader` meets its contract: a start with the reader's lengths. Assumes nothing.
use mathlib.Core.Path.{◌∙◌, ap}
use Rattle.runs.specs.Lengths.{reader_len}
use Rattle.calls.proofs.starting.start_reader.Goals as goal

pub returns : goal.returns
returns c =
    c.start_side.ensures reader_len
    (c.reader_len-want3.ensures ∙ ap reader_len c.kind_of.ensures)
    (c.reader_len-want4.ensures ∙ ap reader_len c.kind_of-2.ensures)
