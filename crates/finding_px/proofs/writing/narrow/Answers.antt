-- `writing::narrow` meets its contract: the law `narrow-writing`. Assumes nothing.
use mathlib.Core.Path.{◌∙◌}
use Rattle.finding_px.proofs.Cells.{narrow-writing}
use Rattle.finding_px.proofs.writing.narrow.Goals as goal

pub returns : goal.returns
returns c =
    c.written.ensures ∙ narrow-writing c.args.frame c.args.i _ c.requires.1 c.partition_of_4-p.ensures.0
