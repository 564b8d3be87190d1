-- `put_last` meets its contract. Assumes nothing.
use mathlib.Core.Path.{◌∙◌, ap}
use Rattle.judge_step.specs.Said.{line_of}
use Rattle.judge_step.proofs.put_last.Goals as goal

pub returns : goal.returns
returns c = (c.put_line.ensures.0, c.put_line.ensures.1 ∙ ap line_of c.after_last.ensures)
